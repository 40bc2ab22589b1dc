-- The rows of a node table, and how many of them are nodes.
use Rattle.std.specs.Prelude.{ℕ, List}

pub record NodeTable : Type 0 where
  pub rows : List ℕ
  pub count : ℕ
