-- The ways out of a call that lays its answer in a row: what it returns, and what it leaves in the row. Assumes nothing.
use Rattle.std.proofs.Common.{◌≡◌, ℕ, ◌+◌, Bool, true, false, cond, List, ◌++◌, length, refl, sym, ap₂, ◌∙◌}
use Rattle.std.proofs.Math.Dec.{eqb}
use Rattle.laws.specs.Refusals.{invalid_layout, bad_length}
use Rattle.laws.specs.Answers.{Answer, gives, refuses, must, number_of, fault_of}
use Rattle.laws.specs.declared.Refusal.{Refusal}
use Rattle.store.specs.Store.{leaves}
use Rattle.reply.specs.Reply.{reply_of, laid, rowed}

-- the end of a call: what it returns, and what it leaves in the row
pub record Ends (r reply : ℕ) (row after : List ℕ) : Type 0 where
  pub returned : r ≡ reply
  pub left : row ≡ after

-- a refusal leaves the row as it was
row_stays : (wanted given number fault : ℕ) (old : List ℕ) → leaves old (rowed wanted given (refuses number fault)) ≡ old
unfolding rowed
row_stays wanted given number fault old = go (eqb number invalid_layout) (eqb given wanted)
  where
    go : (p q : Bool) → leaves old (cond p (refuses number fault) (must q bad_length (refuses number fault))) ≡ old
    go true q = refl
    go false true = refl
    go false false = refl

module _ {A : Type 0} (bytes : A → List ℕ) (wanted : ℕ) (told : Answer A) (old : List ℕ) (r : ℕ) where
  -- the answer refuses
  pub row_refused : (x : Refusal) → told ≡ refuses (number_of x) (fault_of x)
      → r ≡ reply_of (rowed wanted (length old) (refuses (number_of x) (fault_of x)))
      → Ends r (reply_of (rowed wanted (length old) (laid bytes told))) old (leaves old (rowed wanted (length old) (laid bytes told)))
  row_refused x w h = rw w (record { returned = h; left = sym (row_stays wanted (length old) (number_of x) (fault_of x) old) })

  -- the answer gives a value, whose bytes are laid
  pub row_given : (a : A) (row new : List ℕ) → told ≡ gives a → row ≡ bytes a → length (bytes a) ≡ wanted
      → r ≡ reply_of (rowed (length row) (length old) (gives row)) → new ≡ leaves old (rowed (length row) (length old) (gives row))
      → Ends r (reply_of (rowed wanted (length old) (laid bytes told))) new (leaves old (rowed wanted (length old) (laid bytes told)))
  row_given a row new w e l h k = rw (w, ← l, ← e) (record { returned = h; left = k })

  -- the answer is another's
  pub row_through : (new : List ℕ) (other : Answer A) → told ≡ other → r ≡ reply_of (rowed wanted (length old) (laid bytes told))
      → new ≡ leaves old (rowed wanted (length old) (laid bytes told))
      → Ends r (reply_of (rowed wanted (length old) (laid bytes other))) new (leaves old (rowed wanted (length old) (laid bytes other)))
  row_through new other w h k = rw (← w) (record { returned = h; left = k })

-- a value's bytes, laid by another call
pub row_gave : {A : Type 0} (bytes : A → List ℕ) (wanted : ℕ) (told : Answer A) (a : A) (old : List ℕ) (r : ℕ) (new : List ℕ) → told ≡ gives a
    → r ≡ reply_of (rowed wanted (length old) (gives (bytes a))) → new ≡ leaves old (rowed wanted (length old) (gives (bytes a)))
    → Ends r (reply_of (rowed wanted (length old) (laid bytes told))) new (leaves old (rowed wanted (length old) (laid bytes told)))
row_gave bytes wanted told a old r new w h k = rw w (record { returned = h; left = k })

-- the same of bytes in two parts
pub row_two : {A : Type 0} (bytes : A → List ℕ) (wanted : ℕ) (told : Answer A) (old : List ℕ) (r : ℕ) (a : A) (head tail new : List ℕ)
    (h t : ℕ) → told ≡ gives a → head ++ tail ≡ bytes a → length head ≡ h → length tail ≡ t → h + t ≡ wanted
    → r ≡ reply_of (rowed (length head + length tail) (length old) (gives (head ++ tail)))
    → new ≡ leaves old (rowed (length head + length tail) (length old) (gives (head ++ tail)))
    → Ends r (reply_of (rowed wanted (length old) (laid bytes told))) new (leaves old (rowed wanted (length old) (laid bytes told)))
row_two bytes wanted told old r a head tail new h t w e p q l x y =
    let long : length head + length tail ≡ wanted = ap₂ (λ (i j : ℕ). i + j) p q ∙ l in
    rw (w, ← long, ← e) (record { returned = x; left = y })
