-- From a reader to a writer. Assumes nothing.
use Rattle.std.proofs.Common.{◌≡◌, ℕ, List, length, take, subst, OnOk, IfSome, Some, None, Ok, Err}
use Rattle.std.specs.Io.KnownBytes.{Appends}
use Rattle.std.specs.declared.option.Option.{Option}
use Rattle.std.specs.declared.result.Result.{Result}
use Rattle.printout.specs.Program.{WrittenFor}

-- a program that writes what f gives for every file that begins with what it has read writes what f gives for the file
pub through : {T E : Type 0} {f : List ℕ → List ℕ} {text : List ℕ} (buffer : List ℕ) (n : ℕ) (old new : Option (List ℕ))
    → (r : Result T E) → (known : Option (List ℕ)) → IfSome known (λ b. take (length buffer) b ≡ take n buffer) → WrittenFor f buffer n text
    → OnOk r (Appends old new text) → OnOk r (IfSome known (λ b. Appends old new (f b)))
through buffer n old new (Ok _) None h w p = tt
through buffer n old new (Ok _) (Some b) h w p = subst (Appends _ _) (w b h) p
through buffer n old new (Err _) known h w p = tt
