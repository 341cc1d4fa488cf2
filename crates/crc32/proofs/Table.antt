-- A table that is tabled as a test of all its entries says, which antt computes. Assumes nothing.
use mathlib.Core.Path.{◌≡◌, refl, ap, ◌∙◌, subst, sym}
use mathlib.Core.Bool.{Bool, true, false}
use mathlib.Core.List.{List, [], ◌∷◌}
use Prim.Native.Nat.{ℕ, zero, suc, ◌+◌, ◌*◌, ◌/◌, ◌%◌, ◌^◌, ◌<◌}
use native.Mathlib.Nat.{add-zero, zero-add, add-suc, suc-add, le_of_suc-le-suc, not-suc-le-zero}
use lib.Dec.{T, eqb, eqb→eq}
use lib.ListN.{length, get_or}
use lib.Bits.{bit_xor, xor_zero_r}
use Rattle.crc32.specs.Crc.{returned, bit_step, bit_steps}
use Rattle.crc32.specs.Table.{Tabled}
use Rattle.crc32.specs.declared.TheConstants.{TABLE}

abbrev both : Bool → Bool → Bool
both true b = b
both false b = false

both_left : (a b : Bool) → T (both a b) → T a
both_left true b t = tt
both_left false b t = t

both_right : (a b : Bool) → T (both a b) → T b
both_right true b t = t
both_right false b t = absurd t

-- a bit step that has nothing to bring back where a zero leaves, so that antt computes fewer exclusive ors
abbrev stepped : ℕ → ℕ → ℕ
stepped half zero = half
stepped half (suc b) = bit_xor half 0xedb88320

unfoldable pub steps : ℕ → ℕ → ℕ
steps zero s = s
steps (suc n) s = steps n (stepped (s / 2) (s % 2))

as_step : (half b : ℕ) → stepped half b ≡ bit_xor half (returned b)
as_step half zero = sym (xor_zero_r half)
as_step half (suc b) = refl

as_steps : (n s : ℕ) → steps n s ≡ bit_steps n s
unfolding steps bit_steps bit_step
as_steps zero s = refl
as_steps (suc n) s = as_steps n (stepped (s / 2) (s % 2)) ∙ ap (bit_steps n) (as_step (s / 2) (s % 2))

abbrev entry : ℕ → ℕ → Bool
entry k x = eqb x (steps 64 (k % 16 * 2 ^ (4 * (k / 16))))

-- each entry from the i-th on is right
unfoldable pub entries : ℕ → List ℕ → Bool
entries i [] = true
entries i (x ∷ xs) = both (entry i x) (entries (suc i) xs)

from : (xs : List ℕ) (i : ℕ) → T (entries i xs) → (k : ℕ) → k < length xs → T (entry (i + k) (get_or xs k 0))
unfolding entries
from [] i t k h = absurd (not-suc-le-zero h)
from (x ∷ xs) i t zero h = subst (λ (m : ℕ). T (entry m x)) (sym (add-zero i)) (both_left (entry i x) (entries (suc i) xs) t)
from (x ∷ xs) i t (suc k) h =
    subst (λ (m : ℕ). T (entry m (get_or xs k 0))) (suc-add i k ∙ sym (add-suc i k))
    (from xs (suc i) (both_right (entry i x) (entries (suc i) xs) t) k (le_of_suc-le-suc h))

pub tabled : (t : List ℕ) → length t ≡ 256 → T (entries 0 t) → Tabled t
unfolding Tabled
tabled t n all = (
  n,
  λ k h. eqb→eq (get_or t k 0) (steps 64 (k % 16 * 2 ^ (4 * (k / 16))))
      (subst (λ (m : ℕ). T (entry m (get_or t k 0))) (zero-add k) (from t 0 all k (subst (λ (m : ℕ). k < m) (sym n) h)))
      ∙ as_steps 64 (k % 16 * 2 ^ (4 * (k / 16))),
)

-- every entry of the source's table is as it has to be
pub the_table : Tabled TABLE
unfolding entries steps
the_table = tabled TABLE refl tt
