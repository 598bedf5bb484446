-- What closing a batch leaves as it was.
use Rattle.std.proofs.Common.{◌≡◌, ℕ, Bool, true, false, List, ap}
use Rattle.std.specs.Prelude.{MatchBool}
use Rattle.nz_machine.specs.declared.event.Parcel.{Parcel}
use Rattle.nz_fabric.specs.threads.Shared.{Shared, with_record, IsGivenUp}

-- recorded or given up, it was taken as before
pub same_items : (old new : Shared) (number : ℕ) (sends : List (List Parcel)) (recorded : Bool)
    → MatchBool recorded (new ≡ with_record number sends old) (IsGivenUp number old new)
    → (new.run.items ≡ old.run.items) × (new.run.next ≡ old.run.next)
same_items old new number sends true e = (ap (λ (f : Shared). f.run.items) e, ap (λ (f : Shared). f.run.next) e)
same_items old new number sends false e = (ap (λ (f : Shared). f.run.items) e, ap (λ (f : Shared). f.run.next) e)
