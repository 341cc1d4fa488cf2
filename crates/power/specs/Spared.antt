-- Where the assumption "no unfinished page decodes" is met whatever the checksum would say: lives whose unfinished programs leave something
-- unprogrammed without which a page doesn't decode. proofs/Spared shows each statement here.
use Rattle.std.specs.Prelude.{ℕ, ◌+◌, ◌≤◌, ◌<◌, ◌≡◌, List, [], ◌∷◌, None}
use Rattle.power.specs.Pages.{PageStore, Each}
use Rattle.power.specs.Calls.{Next, busy, fault, cut}
use Rattle.power.specs.Life.{Call, offers, drains, writes, powers, unpowered, AllAssumed}
use Rattle.power.specs.Theorem.{erased}

module _ {Page Record Mask : Type 0} (S : PageStore Page Record Mask) where
  -- A scar is what a page must lose before it decodes: which pages have it, and which masks spare it.
  pub record Scarring (Scar : Page → Type 0) (Spares : Mask → Type 0) : Type 0 where
    -- the blank page has it
    pub on_blank : Scar S.blank
    -- a program whose mask spares it leaves it, whatever the page that is programmed
    pub stays : (old target : Page) (keep : Mask) → Scar old → Spares keep → Scar (S.programmed old target keep)
    -- no page that has it decodes
    pub undecoded : (page : Page) → Scar page → S.decode page ≡ None

  -- what the next program does spares it; a busy store programs nothing
  abbrev pub NextSpares : (Mask → Type 0) → Next Mask → Type 0
  NextSpares Spares busy = Unit {0}
  NextSpares Spares (fault keep) = Spares keep
  NextSpares Spares (cut keep) = Spares keep

  -- a call spares it; and what is offered to the queue is a record
  abbrev pub CallSpares : (Mask → Type 0) → Call S → Type 0
  CallSpares Spares (offers r) = S.Fits r
  CallSpares Spares (drains order) = NextSpares Spares order.next
  CallSpares Spares (writes succeed next) = NextSpares Spares next
  CallSpares Spares powers = Unit {0}

  -- the masks of a life spare scars of a family, those of one power-on the same one, k before the first
  abbrev pub LifeSpares : {K : Type 0} → (K → Mask → Type 0) → K → List (Call S) → Type 0
  LifeSpares Spares k [] = Unit {0}
  LifeSpares Spares k (offers r ∷ life) = CallSpares (Spares k) (offers r) × LifeSpares Spares k life
  LifeSpares Spares k (drains order ∷ life) = CallSpares (Spares k) (drains order) × LifeSpares Spares k life
  LifeSpares Spares k (writes succeed next ∷ life) = CallSpares (Spares k) (writes succeed next) × LifeSpares Spares k life
  LifeSpares {K} Spares k (powers ∷ life) = (chosen : K) × LifeSpares Spares chosen life

  -- A LIFE WHOSE MASKS ALL SPARE ONE SCAR MEETS THE ASSUMPTION: "no unfinished page decodes"
  abbrev pub SparedMeetsAssumption : Type 1
  SparedMeetsAssumption =
      (Scar : Page → Type 0) (Spares : Mask → Type 0) → Scarring Scar Spares → (pages : ℕ) → 0 < pages → pages + 2 ≤ S.limit → (life : List (Call S))
      → Each (CallSpares Spares) life → AllAssumed S life (unpowered S (erased S pages))

  -- and so does a life in which the masks of each power-on spare one scar, another power-on's maybe another
  abbrev pub SparedByPowerOn : Type 1
  SparedByPowerOn =
      (K : Type 0) (Scar : K → Page → Type 0) (Spares : K → Mask → Type 0) → ((k : K) → Scarring (Scar k) (Spares k)) → (pages : ℕ) → 0 < pages
      → pages + 2 ≤ S.limit → (k : K) (life : List (Call S)) → LifeSpares Spares k life → AllAssumed S life (unpowered S (erased S pages))
