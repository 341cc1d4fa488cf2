-- What `search` is given at a need whose contract goes by tests on numbers. Assumes nothing.
use borrow.Author.Rules.{rules}
use borrow.Author.Tests.{eq-eqb, ne_eqb, le-leb, lt-leb, lt-ltb, le-ltb}

pub ruleset tests = (rules, eq-eqb, ne_eqb, le-leb, lt-leb, lt-ltb, le-ltb)
