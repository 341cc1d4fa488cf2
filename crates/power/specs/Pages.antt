-- The pages of the log with no byte in them: what demand 3 has to know of a page store. The page of 256 bytes is one instance.
-- From document 01, "Bytes on flash" and "Writer and store".
use Rattle.std.specs.Prelude.{ℕ, ◌≤◌, ◌≡◌, Bool, not, List, [], ◌∷◌, ltb, length, Option, map}

-- what a page that decodes says: its flight, its page sequence and the records that it is made of, as rows
pub record Decoded (Record : Type 0) : Type 0 where
  pub flight : ℕ
  pub sequence : ℕ
  pub rows : List Record

-- the rows of a page of that flight, each with its flight
abbrev pub in_flight : {Record : Type 0} → ℕ → List Record → List (ℕ × Record)
in_flight flight = map (λ r. (flight, r))

-- something holds of each element of a list
abbrev pub Each : {A : Type 0} → (A → Type 0) → List A → Type 0
Each P [] = Unit {0}
Each P (x ∷ xs) = P x × Each P xs

-- A page store: pages, the records that they hold, masks that say which bits a program left as they were, and the operations on them. What they
-- must meet is `Lawful`.
pub record PageStore (Page Record Mask : Type 0) : Type 1 where
  -- "An erase gives 0xff": the page that is blank, and how it is told from others
  pub blank : Page
  pub is_blank : Page → Bool
  -- what a page says, if it decodes; and the page that is made of a flight, a page sequence and rows
  pub decode : Page → Option (Decoded Record)
  pub encode : ℕ → ℕ → List Record → Page
  -- "Programming a byte gives old AND (target OR keep)": of the old page, the target and the keep mask
  pub programmed : Page → Page → Mask → Page
  -- "keep is 0 if it succeeds"
  pub clean : Mask
  -- flight numbers and page sequences below the limit don't wrap when the next one is taken
  pub limit : ℕ
  pub flight_after : ℕ → ℕ
  pub sequence_after : ℕ → ℕ
  -- the armed bit of a record; the record with the boot-session bit, and whether a record has it; which values are records
  pub armed : Record → Bool
  pub marked : Record → Record
  pub has_mark : Record → Bool
  pub Fits : Record → Type 0
  -- what the records of one flight have in common, fixed by its first record; whether a record may join such a flight
  pub Edition : Type 0
  pub fresh_edition : Edition
  pub edition : Record → Edition
  pub joins : Edition → Record → Bool
  -- how many records a page of an edition has room for
  pub per_page : Edition → ℕ

module _ {Page Record Mask : Type 0} (S : PageStore Page Record Mask) where
  -- the rows that a page of an edition can hold: no more than it has room for, each a record, and all of that edition
  pub record Packs (e : S.Edition) (rows : List Record) : Type 0 where
    pub few : length rows ≤ S.per_page e
    pub each : Each (λ r. S.Fits r × (S.edition r ≡ e)) rows

  -- whether they fill it
  abbrev pub full : S.Edition → List Record → Bool
  full e rows = not (ltb (length rows) (S.per_page e))

  -- the records per page of the last record of these, or else another number
  abbrev pub last_per_page : ℕ → List (ℕ × Record) → ℕ
  last_per_page other [] = other
  last_per_page other (entry ∷ logged) = last_per_page (S.per_page (S.edition entry.1)) logged

  -- "all but at most the last five": as many as a page of the last record's edition has room for, where these were logged
  abbrev pub most_lost : List (ℕ × Record) → ℕ
  most_lost logged = last_per_page 0 logged
