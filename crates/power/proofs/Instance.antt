-- The theorem at one of the lives of specs/Examples: the small store meets the laws of a page store and the life meets the assumption, so
-- what the theorem says is said of something. Assumes nothing.
use mathlib.Core.Path.{refl}
use mathlib.Core.Logic.{inl}
use mathlib.Core.List.{[]}
use native.Mathlib.Omega.{arith}
use Rattle.laws.specs.Halving.{bisect, bisecting}
use Rattle.power.specs.Life.{unpowered, AllAssumed}
use Rattle.power.specs.Theorem.{Holds, erased}
use Rattle.power.specs.Small.{small}
use Rattle.power.specs.Examples.{after, two_torn}
use Rattle.power.proofs.Small.{small_lawful}
use Rattle.power.proofs.Theorem.{from_erased}

two_torn_assumed : AllAssumed small two_torn (unpowered small (erased small 4))
unfolding two_torn bisect bisecting
two_torn_assumed = (tt, (tt, (tt, (tt, (tt, (inl refl, (tt, (tt, (tt, (inl refl, (tt, (tt, (tt, (tt, (tt, (tt, tt))))))))))))))))

two_torn_holds : Holds small [] (after two_torn)
two_torn_holds = from_erased small small_lawful 4 (omega arith) (omega arith) two_torn two_torn_assumed
