-- Which pages may follow one another in a log: the loose grammar, from which the theorem starts, and the strict one, which every log has
-- that our writer left from an erased one. Page by page from the front.
use Rattle.std.specs.Prelude.{ℕ, suc, ◌≤◌, ◌<◌, ◌≡◌, true, ◌⊎◌, List, [], ◌∷◌, ◌++◌}
use Rattle.power.specs.Pages.{Decoded, PageStore, Packs, full}
use Rattle.power.specs.Reading.{Blanks, Whole, Torn}

-- where the used pages end: nothing is used; the last page is whole, and this is what it says; the last page is torn, and this is what the
-- whole page before it says; or page 0 is torn, or the last two pages are
pub data Ending (Record : Type 0) : Type 0 where
  unused : Ending Record
  ended : Decoded Record → Ending Record
  frayed : Decoded Record → Ending Record
  foreign : Ending Record

module _ {Record : Type 0} where
  -- the ending after one more torn page
  abbrev pub torn_more : Ending Record → Ending Record
  torn_more unused = foreign
  torn_more (ended content) = frayed content
  torn_more (frayed content) = foreign
  torn_more foreign = foreign

  -- the last whole page's flight, 0 if there is none
  abbrev pub newest : Ending Record → ℕ
  newest unused = 0
  newest (ended content) = content.flight
  newest (frayed content) = content.flight
  newest foreign = 0

  -- a log that isn't foreign may be written
  abbrev pub Sound : Ending Record → Type 0
  Sound unused = Unit {0}
  Sound (ended content) = Unit {0}
  Sound (frayed content) = Unit {0}
  Sound foreign = ⊥

  -- loose: flights don't fall, and after a torn page they rise; gaps, short pages and flight 0 are welcome
  abbrev pub NotFalling : Ending Record → Decoded Record → Type 0
  NotFalling unused content = Unit {0}
  NotFalling (ended before) content = before.flight ≤ content.flight
  NotFalling (frayed before) content = before.flight < content.flight
  NotFalling foreign content = ⊥

module _ {Page Record Mask : Type 0} (S : PageStore Page Record Mask) where
  -- the loose rule for a whole page asks nothing but that of its flight
  abbrev pub LooseRule : Ending Record → Page → Decoded Record → Type 0
  LooseRule ending page content = NotFalling ending content

  -- a flight's first page: flights 1, 2, 3 without a gap, sequence 0
  abbrev pub FirstPage : Ending Record → ℕ → ℕ → Type 0
  FirstPage ending flight sequence = Sound ending × (flight ≡ suc (newest ending)) × (sequence ≡ 0)

  -- a further page of a flight: right after a whole page of that flight which is full, of the same edition, and its sequence is one more
  abbrev pub FurtherPage : Ending Record → S.Edition → ℕ → ℕ → Type 0
  FurtherPage unused e flight sequence = ⊥
  FurtherPage (ended before) e flight sequence =
      (flight ≡ before.flight) × (sequence ≡ suc before.sequence) × (full S e before.rows ≡ true) × Packs S e before.rows
  FurtherPage (frayed before) e flight sequence = ⊥
  FurtherPage foreign e flight sequence = ⊥

  -- the page that comes next in a flight
  abbrev pub NextPage : Ending Record → S.Edition → ℕ → ℕ → Type 0
  NextPage ending e flight sequence = FirstPage ending flight sequence ⊎ FurtherPage ending e flight sequence

  -- strict: the page is an encoding of at least one row, and it is the next page of its flight
  pub record StrictRule (ending : Ending Record) (page : Page) (content : Decoded Record) : Type 0 where
    pub encoded : page ≡ S.encode content.flight content.sequence content.rows
    pub some_rows : ¬ (content.rows ≡ [])
    pub edition : S.Edition
    pub packs : Packs S edition content.rows
    pub next : NextPage ending edition content.flight content.sequence

  -- the used pages, by a rule for whole pages: a torn page may follow any ending that isn't foreign
  pub data Follows (Rule : Ending Record → Page → Decoded Record → Type 0) : List Page → Ending Record → Type 0 where
    nothing_used : Follows Rule [] unused
    whole_page : {pages : List Page} {ending : Ending Record} {page : Page} {content : Decoded Record} → Follows Rule pages ending
        → Rule ending page content → Whole S page content → Follows Rule (pages ++ page ∷ []) (ended content)
    torn_page : {pages : List Page} {ending : Ending Record} {page : Page} → Follows Rule pages ending → Sound ending → Torn S page
        → Follows Rule (pages ++ page ∷ []) (torn_more ending)

  -- a log: used pages by the rule, then blank ones
  pub record LogBy (Rule : Ending Record → Page → Decoded Record → Type 0) (log : List Page) : Type 0 where
    pub used : List Page
    pub rest : List Page
    pub ending : Ending Record
    pub follows : Follows Rule used ending
    pub blanks : Blanks S rest
    pub split : log ≡ used ++ rest

  -- the loose grammar
  abbrev pub Loose : List Page → Type 0
  Loose log = LogBy LooseRule log

  -- the strict grammar
  abbrev pub Strict : List Page → Type 0
  Strict log = LogBy StrictRule log
