-- Who holds which lock, and for how long.
use Rattle.std.specs.Prelude.{ℕ, suc, Bool, true, false, ◌&&◌, ◌||◌, not, ◌==◌, List, [], ◌∷◌, ◌++◌, Option, Some, None, if◌then◌else◌, codes}
use Rattle.std.specs.Fmt.{decimal}
use Rattle.std.specs.List.{list_any, flat_map}
use Rattle.std.specs.Str.{bytes_eq}
use Rattle.nz_store.specs.declared.command.Answer.{Answer}
use Rattle.nz_store.specs.declared.command.Answer.TheVariants.{Done, Value, Absent, Differs}
use Rattle.nz_machine.specs.declared.journal.Executed.{Executed}
use Rattle.nz_locks.specs.declared.holding.Tenure.{Tenure}
use Rattle.nz_locks.specs.Uses.{Use, Acquire, Release, Other, use_of}

-- Whether the store did what the command asked for.
abbrev pub is_done : Answer → Bool
is_done Done = true
is_done (Value value) = false
is_done Absent = false
is_done Differs = false

-- What an executed command did with a lock: nothing, where it was not answered done.
abbrev pub done_use : Executed → Use
done_use x = if is_done x.answer then use_of x.id.client x.command else Other

-- Whether this acquires the lock of the name.
abbrev pub is_acquire_of : List ℕ → Use → Bool
is_acquire_of name (Acquire other) = bytes_eq other name
is_acquire_of name _ = false

-- Whether this releases the lock of the name.
abbrev pub is_release_of : List ℕ → Use → Bool
is_release_of name (Release other) = bytes_eq other name
is_release_of name _ = false

-- Whether by this command the client took the lock of the name.
abbrev pub acquires : ℕ → List ℕ → Executed → Bool
acquires client name x = (x.id.client == client) && is_acquire_of name (done_use x)

-- Whether by this command the client gave back the lock of the name.
abbrev pub releases : ℕ → List ℕ → Executed → Bool
releases client name x = (x.id.client == client) && is_release_of name (done_use x)

-- Whether the client holds the lock of the name after these commands: it took it, and has not given it back since.
abbrev pub holds : ℕ → List ℕ → List Executed → Bool
holds client name [] = false
holds client name (x ∷ xs) = (acquires client name x && not (list_any (releases client name) xs)) || holds client name xs

-- The place of the client's next release of the lock of the name in commands that begin at this place.
abbrev pub next_release : ℕ → List ℕ → ℕ → List Executed → Option ℕ
next_release client name place [] = None
next_release client name place (x ∷ xs) = if releases client name x then Some place else next_release client name (suc place) xs

-- The tenure that the client's use at a place begins, if it is an acquire: it lasts to the client's next release of the lock.
abbrev pub tenure_of : ℕ → ℕ → Use → List Executed → List Tenure
tenure_of client place (Acquire name) rest =
    record { name = name; client = client; from = place; to = next_release client name (suc place) rest } ∷ []
tenure_of client place _ rest = []

-- The tenures that commands begin, of which the first is at this place, in the order of their beginnings.
abbrev pub tenures_from : ℕ → List Executed → List Tenure
tenures_from place [] = []
tenures_from place (x ∷ xs) = tenure_of x.id.client place (done_use x) xs ++ tenures_from (suc place) xs

-- The tenures of a history. Its places are counted from 1.
abbrev pub tenures_of : List Executed → List Tenure
tenures_of history = tenures_from 1 history

-- The place of a release, or `-`, after a space.
abbrev pub end_text : Option ℕ → List ℕ
end_text None = codes " -"
end_text (Some place) = codes " " ++ decimal place

-- The places of a tenure, each after a space.
abbrev pub places_text : Tenure → List ℕ
places_text t = codes " " ++ (decimal t.from ++ end_text t.to)

-- The line of a tenure.
abbrev pub hold_line : Tenure → List ℕ
hold_line t = codes "hold " ++ (t.name ++ (codes " c" ++ (decimal t.client ++ (places_text t ++ codes "\n"))))

-- A line for each tenure of a history.
abbrev pub hold_lines : List Executed → List ℕ
hold_lines history = flat_map hold_line (tenures_of history)
