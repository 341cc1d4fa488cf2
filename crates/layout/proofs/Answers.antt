-- The answers can be read back from what they tell. Assumes nothing.
use Rattle.laws.proofs.ReadBack.{answers_tell}
use Rattle.layout.specs.Laws.{AddressesTell}

pub addresses_tell : AddressesTell
addresses_tell = answers_tell
