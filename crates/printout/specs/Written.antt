-- Text in a lent buffer. Assumes nothing.
use Rattle.std.specs.Prelude.{◌≡◌, List, ◌++◌, ℕ, ◌≤◌, length, take}
use Rattle.printout.specs.declared.Writer.{Writer}

-- the first `at` bytes of the buffer are the text ts, if that fits
pub record Holds (out : List ℕ) (at : ℕ) (ts : List ℕ) : Type 0 where
  pub inside : at ≤ length out
  pub text : length ts ≤ length out → (at ≡ length ts) × (take at out ≡ ts)

-- the text xs was put behind what the buffer held
abbrev pub Puts : List ℕ → ℕ → List ℕ → ℕ → List ℕ → Type 0
Puts out at out' at' xs = (ts : List ℕ) → Holds out at ts → Holds out' at' (ts ++ xs)

-- a writer put the text xs behind what its buffer held; it keeps that buffer, and the buffer its length
pub record Adds (w w' : Writer) (xs : List ℕ) : Type 0 where
  pub same_buffer : w'.buffer.ghost_name ≡ w.buffer.ghost_name
  pub long : length w'.buffer.now ≡ length w.buffer.now
  pub puts : Puts w.buffer.now w.len w'.buffer.now w'.len xs

-- the first `at` bytes of a buffer of `room` bytes are the text ts, all of it
pub record Whole (room : ℕ) (out : List ℕ) (at : ℕ) (ts : List ℕ) : Type 0 where
  pub long : length out ≡ room
  pub inside : at ≤ length out
  pub text : take at out ≡ ts
