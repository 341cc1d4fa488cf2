-- What a run of the census can promise: no contract can say which bytes are read, but what is made of them is their census.
use Rattle.std.specs.Prelude.{ℕ, ◌≡◌, List}
use Rattle.census_text.specs.Census.{census, printed}

-- the census of some bytes
pub record SomeCensus (text : List ℕ) : Type 0 where
  pub image : List ℕ
  pub is : text ≡ printed (census image)
