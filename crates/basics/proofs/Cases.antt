-- What turns a fact that a branch gave into the value of the test that asked for it, for `search`.
-- Assumes nothing.
use borrow.Author.Tests.{lt-ltb, le-ltb, le-leb, lt-leb, eq-eqb, ne_eqb}

pub ruleset cases = (lt-ltb, le-ltb, le-leb, lt-leb, eq-eqb, ne_eqb)
