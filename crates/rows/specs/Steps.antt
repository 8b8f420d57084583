-- What the functions that put a part of a line say of it. Assumes nothing.
use Rattle.std.specs.Prelude.{ℕ, ◌+◌, ◌≤◌, ◌≡◌, List, length}
use Rattle.octets.specs.Runs.{written}

-- a text of at most so many bytes was put into a buffer from a place on: where it ends, and what the buffer holds then
pub record Put (most : ℕ) (before : List ℕ) (at : ℕ) (text : List ℕ) (end : ℕ) (after : List ℕ) : Type 0 where
  pub ends : end ≡ at + length text
  pub within : end ≤ at + most
  pub holds : after ≡ written before at text
