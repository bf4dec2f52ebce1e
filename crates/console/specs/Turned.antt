-- What the program `convert` writes for a file: the file in the other version than the one that it says it has, or the line of the refusal. Assumes nothing.
use Rattle.std.specs.Prelude.{List, ℕ}
use Rattle.bids.specs.Format.{contents}
use Rattle.conversion.specs.Writing.{file_of}
use Rattle.conversion.specs.Contract.{own_layout, other_layout, convert_refusal}
use Rattle.printout.specs.Program.{unless, WrittenFor}

-- with a buffer of 16384 bytes, which no file outgrows (proofs/Turning, `never_short`)
unfoldable pub turned : List ℕ → List ℕ
turned b = unless (convert_refusal (own_layout b) (other_layout b) b 16384) (file_of (other_layout b) (contents (own_layout b) b))

abbrev pub TurnedFor : (buffer : List ℕ) (n : ℕ) (text : List ℕ) → Type 0
TurnedFor buffer n text = WrittenFor turned buffer n text
