-- Request P1 in the lives of demand 3: "Tell me why the log is foreign." proofs/Explained shows the statement here.
use Rattle.std.specs.Prelude.{ℕ, ◌≡◌, ◌↔◌, List}
use Rattle.laws.specs.Answers.{Answer, gives}
use Rattle.power.specs.Claims.{FirstTorn, LastTwoTorn}
use Rattle.store.specs.Store.{no_faults}
use Rattle.records.specs.Pages.{Refused}
use Rattle.records.specs.Explain.{ToldPages, ToldReason, first_torn, last_torn, explained}
use Rattle.power_pages.specs.Store.{real}
use Rattle.rig.specs.Rig.{after_play}
use Rattle.power_lives.specs.Theorem.{Plays, log_of, Erased, Assumed}

-- the two cases of a foreign log, each with the reason that explain gives for it; where both hold, page 0 is the reason
module _ (log : List (List ℕ)) (said : Answer ToldReason) where
  pub record ForeignExplained : Type 0 where
    pub first : ((by : Refused) × (said ≡ gives (first_torn by))) ↔ FirstTorn real log
    pub last : ((pages : ToldPages) × (said ≡ gives (last_torn pages))) ↔ (LastTwoTorn real log × ¬ FirstTorn real log)

-- THE FIRST TWO REASONS ARE THE TWO CASES IN WHICH A LOG IS FOREIGN, for every script of a life
abbrev pub ExplainsForeign : Type 0
ExplainsForeign =
    (capacity : ℕ) (image script output : List ℕ) → Plays capacity image script output → Erased capacity image → Assumed capacity image script
    → ForeignExplained (log_of capacity (after_play capacity image script output))
    (explained capacity (after_play capacity image script output) (no_faults capacity))
