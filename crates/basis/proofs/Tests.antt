-- The tests of a chain of returns: each fact that a branch gives, as the value of the Bool that a definition asks.
-- `search tests` at a return finds the premises in the place's record by itself.
use borrow.Author.Tests.{le-ltb, lt-ltb, le-leb, lt-leb, eq-eqb, ne_eqb}

pub ruleset tests = (lt-ltb, le-ltb, le-leb, lt-leb, eq-eqb, ne_eqb)
