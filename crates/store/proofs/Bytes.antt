-- Programming bytes: each by itself, one more in a loop, and what stays. Assumes nothing.
use Prim.Native.Nat.{ℕ, zero, suc, ◌+◌, ◌≤◌, ◌<◌}
use mathlib.Core.Path.{◌≡◌, refl, sym, ap, ap₂, ◌∙◌}
use mathlib.Core.List.{List, [], ◌∷◌, ◌++◌, append_assoc}
use native.Mathlib.Nat.{add-zero}
use native.Mathlib.Numerals.{add-one}
use native.Mathlib.Omega.{arith}
use lib.ListN.{length, get_or, set, take, drop, length-append, length-drop, take-append-drop}
use lib.Seq.{length-take-le, drop-cons, append_snoc, get_or_at, set_at, get_or-drop}
use Rattle.store.specs.Store.{part, programmed_byte, programmed_bytes, programmed}

next : (k : List ℕ) (j : ℕ) → get_or (drop 1 k) j 0 ≡ get_or k (suc j) 0
next [] j = refl
next (x ∷ k) j = refl

-- ---- bytes by themselves

pub length_programmed_bytes : (c t k : List ℕ) → length (programmed_bytes c t k) ≡ length c
unfolding programmed_bytes
length_programmed_bytes [] t k = refl
length_programmed_bytes (c ∷ cs) [] k = refl
length_programmed_bytes (c ∷ cs) (t ∷ ts) k = ap suc (length_programmed_bytes cs ts (drop 1 k))

pub programmed_byte_lem : (c t k : List ℕ) (i : ℕ) → i < length c → i < length t
    → get_or (programmed_bytes c t k) i 0 ≡ programmed_byte (get_or c i 0) (get_or t i 0) (get_or k i 0)
unfolding programmed_bytes
programmed_byte_lem [] t k i h l = absurd (omega arith)
programmed_byte_lem (c ∷ cs) [] k i h l = absurd (omega arith)
programmed_byte_lem (c ∷ cs) (t ∷ ts) k zero h l = refl
programmed_byte_lem (c ∷ cs) (t ∷ ts) k (suc i) h l =
    programmed_byte_lem cs ts (drop 1 k) i (omega arith) (omega arith) ∙ ap (programmed_byte (get_or cs i 0) (get_or ts i 0)) (next k i)

-- one byte more
programmed_snoc : (c t k : List ℕ) (j : ℕ) → j < length c → j < length t
    → programmed_bytes (take (suc j) c) t k ≡ programmed_bytes (take j c) t k ++ programmed_byte (get_or c j 0) (get_or t j 0) (get_or k j 0) ∷ []
unfolding programmed_bytes
programmed_snoc [] t k j h l = absurd (omega arith)
programmed_snoc (c ∷ cs) [] k j h l = absurd (omega arith)
programmed_snoc (c ∷ cs) (t ∷ ts) k zero h l = refl
programmed_snoc (c ∷ cs) (t ∷ ts) k (suc j) h l =
    ap {B = List ℕ} (λ (r : List ℕ). programmed_byte c t (get_or k 0 0) ∷ r)
    (programmed_snoc cs ts (drop 1 k) j (omega arith) (omega arith)
    ∙ ap (λ (b : ℕ). programmed_bytes (take j cs) ts (drop 1 k) ++ programmed_byte (get_or cs j 0) (get_or ts j 0) b ∷ []) (next k j))

-- ---- an image, byte after byte

-- the image after the first j bytes
abbrev pub so_far : List ℕ → ℕ → List ℕ → List ℕ → ℕ → List ℕ
so_far m at t k j = take at m ++ (programmed_bytes (part at j m) t k ++ drop (at + j) m)

pub programmed_all : (m : List ℕ) (at : ℕ) (t k : List ℕ) → so_far m at t k (length t) ≡ programmed m at t k
unfolding programmed
programmed_all m at t k = refl

module _ (m : List ℕ) (at : ℕ) (t k : List ℕ) (fits : at + length t ≤ length m) where
  pub none_yet : m ≡ so_far m at t k 0
  unfolding programmed_bytes
  none_yet = sym (take-append-drop at m) ∙ ap (λ (j : ℕ). take at m ++ drop j m) (sym (add-zero at))

  module _ (j : ℕ) (lt : j < length t) where
    before : List ℕ
    before = take at m ++ programmed_bytes (part at j m) t k

    before_long : length before ≡ at + j
    unfolding before
    before_long =
        length-append (take at m) (programmed_bytes (part at j m) t k)
        ∙ ap₂ (λ (a b : ℕ). a + b) (length-take-le at m (omega arith))
        (length_programmed_bytes (part at j m) t k ∙ length-take-le j (drop at m) (omega (arith, length-drop at m)))

    shape : so_far m at t k j ≡ before ++ get_or m (at + j) 0 ∷ drop (suc (at + j)) m
    unfolding before
    shape =
        sym (append_assoc (take at m) (programmed_bytes (part at j m) t k) (drop (at + j) m))
        ∙ ap (λ (r : List ℕ). before ++ r) (drop-cons m (at + j) 0 (omega arith))

    byte : ℕ
    byte = programmed_byte (get_or m (at + j) 0) (get_or t j 0) (get_or k j 0)

    grown : programmed_bytes (part at (suc j) m) t k ≡ programmed_bytes (part at j m) t k ++ byte ∷ []
    unfolding byte
    grown =
        programmed_snoc (drop at m) t k j (omega (arith, length-drop at m)) lt
        ∙ ap (λ (b : ℕ). programmed_bytes (part at j m) t k ++ programmed_byte b (get_or t j 0) (get_or k j 0) ∷ []) (get_or-drop at m j 0)

    pub one_more : (x : List ℕ) (b : ℕ) → x ≡ so_far m at t k j → b ≡ get_or k j 0
        → set x (at + j) (programmed_byte (get_or x (at + j) 0) (get_or t j 0) b) ≡ so_far m at t k (j + 1)
    unfolding before byte
    one_more x b ex eb =
        let y = get_or m (at + j) 0 in
        let rest = drop (suc (at + j)) m in
        ap₂ (λ (l : List ℕ) (d : ℕ). set l (at + j) (programmed_byte (get_or l (at + j) 0) (get_or t j 0) d)) (ex ∙ shape) eb
        ∙ ap (λ (d : ℕ). set (before ++ y ∷ rest) (at + j) (programmed_byte d (get_or t j 0) (get_or k j 0))) (get_or_at before y rest 0 (at + j) before_long)
        ∙ set_at before y rest byte (at + j) before_long
        ∙ append_assoc (take at m) (programmed_bytes (part at j m) t k) (byte ∷ rest)
        ∙ ap (λ (r : List ℕ). take at m ++ r) (sym (append_snoc (programmed_bytes (part at j m) t k) byte rest))
        ∙ ap₂ (λ (a b : List ℕ). take at m ++ (a ++ b)) (sym grown) (ap (λ (i : ℕ). drop i m) {x = suc (at + j)} {y = at + suc j} (omega arith))
        ∙ ap (so_far m at t k) (sym (add-one j))
