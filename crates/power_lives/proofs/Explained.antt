-- In the lives of demand 3 the halving finds the first blank page, so the reasons that explain gives are the cases of a foreign log. Assumes
-- nothing.
use Prim.Native.Nat.{ℕ, suc, ◌≤◌, ◌<◌}
use mathlib.Core.Path.{◌≡◌, refl, sym, ap, ◌∙◌}
use mathlib.Core.Bool.{true}
use mathlib.Core.Logic.{◌↔◌}
use mathlib.Core.List.{List}
use Rattle.std.specs.Prelude.{None}
use native.Mathlib.Decide.{dec_lt}
use native.Mathlib.Omega.{arith}
use lib.ListN.{length}
use Rattle.laws.specs.Answers.{Answer, gives, refuses}
use Rattle.laws.proofs.Chain.{no_refusal}
use Rattle.power.specs.Claims.{FirstTorn, LastTwoTorn}
use Rattle.power.specs.Grammar.{Loose, Strict}
use Rattle.power.specs.Reading.{Torn, page_at, first_blank}
use Rattle.power.proofs.Scan.{used_first, used_below, blank_at_first}
use Rattle.power.proofs.Theorem.{strict_loose}
use Rattle.power.proofs.Used.{none_some, log_map}
use Rattle.layout.specs.Layout.{valid_capacity, pages_in}
use Rattle.layout.proofs.Capacity.{valid}
use Rattle.blackbox.specs.Page.{decoded}
use Rattle.blackbox.specs.declared.PageMetadata.{PageMetadata}
use Rattle.store.specs.Store.{no_faults}
use Rattle.records.specs.Pages.{page_in, Refused, refused}
use Rattle.records.specs.Scan.{used_pages}
use Rattle.records.specs.Explain.{ToldPages, ToldReason, first_torn, last_torn, torn_pages, explained}
use Rattle.records.specs.Laws.{Holds, NoneBefore}
use Rattle.records.proofs.Reasons.{reason_of_scan, first_to_hold}
use Rattle.power_pages.specs.Store.{content_in, content, real}
use Rattle.power_pages.proofs.Real.{real_lawful}
use Rattle.power_pages.proofs.Scan.{length_pages, page_at_lem, used_is}
use Rattle.rig.specs.Rig.{after_play}
use Rattle.power_lives.specs.Theorem.{log_of}
use Rattle.power_lives.specs.Explained.{ExplainsForeign}
use Rattle.power_lives.proofs.Lives.{none_faulty}
use Rattle.power_lives.proofs.Theorem.{after_long, first_within, demand_3}

-- a page doesn't decode, as the theory has it and as the decoder says
undecoded : (page : List ℕ) → ((by : Refused) × (decoded page ≡ refuses by.number by.fault)) ↔ (content page ≡ None)
unfolding content
undecoded page = go (decoded page) refl
  where
    go : (d : Answer PageMetadata) → decoded page ≡ d → ((by : Refused) × (decoded page ≡ refuses by.number by.fault)) ↔ (content_in page (decoded page) ≡ None)
    go (gives m) e = (λ t. absurd (no_refusal (sym t.1 ∙ e)), λ n. absurd (none_some n (ap (content_in page) e)))
    go (refuses number fault) e = (
      λ t. ap (content_in page) e,
      λ n. (refused number fault, e),
    )

module _ (c : ℕ) (after : List ℕ) (v : valid_capacity c ≡ true) (long : length after ≡ c) (grammar : Strict real (log_of c after)) where
  abbrev log : List (List ℕ)
  log = log_of c after

  abbrev said : Answer ToldReason
  said = explained c after (no_faults c)

  loose : Loose real log
  loose = log_map real real_lawful (strict_loose real real_lawful) grammar

  used : used_pages (pages_in c) after (no_faults c) ≡ gives (first_blank real log)
  used =
      used_is after (no_faults c) (none_faulty c) (pages_in c) (omega (arith, (valid c v).above))
      ∙ ap {B = Answer ℕ} gives (used_first real real_lawful log loose)

  within : first_blank real log ≤ pages_in c
  within = omega (arith, first_within log, length_pages after 0 (pages_in c))

  -- a used page is torn exactly if it doesn't decode
  torn_at_lem : (i : ℕ) → i < first_blank real log → Torn real (page_at real log i) ↔ ((by : Refused) × (decoded (page_in after i) ≡ refuses by.number by.fault))
  torn_at_lem i h = (
    λ t. (undecoded (page_in after i)).1 (ap content (sym (page_at_lem after (pages_in c) i (omega (arith, within)))) ∙ t.0),
    λ t. (ap content (page_at_lem after (pages_in c) i (omega (arith, within))) ∙ (undecoded (page_in after i)).0 t, used_below real real_lawful log loose i h),
  )

  -- a torn page 0 is used
  some_used : FirstTorn real log → 0 < first_blank real log
  some_used t = go (dec_lt 0 (first_blank real log))
    where
      go : Dec (0 < first_blank real log) → 0 < first_blank real log
      go (yes k) = k
      go (no k) =
          let z : first_blank real log ≡ 0 = omega arith in
          absurd (t.1 (ap (page_at real log) (sym z) ∙ blank_at_first real real_lawful log))

  module _ (well : (number fault : ℕ) → ¬ (said ≡ refuses number fault)) where
    -- a reason is given exactly if it is the first to hold
    exactly : (r : ToldReason) → said ≡ gives r ↔ (Holds (pages_in c) after (first_blank real log) r × NoneBefore (pages_in c) after (first_blank real log) r)
    exactly r = first_to_hold c after (no_faults c) (first_blank real log) used well r

    first_is : ((by : Refused) × (said ≡ gives (first_torn by))) ↔ FirstTorn real log
    first_is = (
      λ t. let h = (exactly (first_torn t.0)).0 t.1 in (torn_at_lem 0 h.0.0).1 (t.0, h.0.1),
      λ t.
          let k = some_used t in
          let d = (torn_at_lem 0 k).0 t in
          (d.0, (exactly (first_torn d.0)).1 ((k, d.1), tt)),
    )

    not_first : ((by : Refused) → ¬ Holds (pages_in c) after (first_blank real log) (first_torn by)) ↔ ¬ FirstTorn real log
    not_first = (λ h t. let k = some_used t in let d = (torn_at_lem 0 k).0 t in h d.0 (k, d.1), λ h n k. h ((torn_at_lem 0 k.0).1 (n, k.1)))

    last_is : ((pages : ToldPages) × (said ≡ gives (last_torn pages))) ↔ (LastTwoTorn real log × ¬ FirstTorn real log)
    last_is = (
      λ t.
          let i = t.0.earlier_page in
          let h = (exactly (last_torn t.0)).0 t.1 in
          let next : t.0.later_page ≡ suc i = omega (arith, h.0.0) in (
            (
              i,
              omega (arith, h.0.0, h.0.1),
              (torn_at_lem i (omega (arith, h.0.0, h.0.1))).1 (t.0.earlier, h.0.2),
              (torn_at_lem (suc i) (omega (arith, h.0.0, h.0.1))).1
                  (t.0.later, ap (λ (j : ℕ). decoded (page_in after j)) (sym next) ∙ h.0.3),
            ),
            not_first.0 h.1,
          ),
      λ t.
          let i = t.0.0 in
          let d = (torn_at_lem i (omega (arith, t.0.1))).0 t.0.2 in
          let e = (torn_at_lem (suc i) (omega (arith, t.0.1))).0 t.0.3 in
          let pages : ToldPages = torn_pages i d.0 (suc i) e.0 in
          (pages, (exactly (last_torn pages)).1 ((omega arith, omega (arith, t.0.1), d.1, e.1), not_first.1 t.1)),
    )

pub explains_foreign : ExplainsForeign
explains_foreign c image script output p empty undecoding =
    let after = after_play c image script output in
    let h = demand_3 c image script output p empty undecoding in
    let long = after_long c image script output p in
    let well : (number fault : ℕ) → ¬ (explained c after (no_faults c) ≡ refuses number fault) =
    λ number fault e. no_refusal (sym (((reason_of_scan c after (no_faults c)).refused number fault).0 e) ∙ h.scan_log) in
    record { first = first_is c after p.valid long h.strict well; last = last_is c after p.valid long h.strict well }
