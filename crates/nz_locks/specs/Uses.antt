-- Named locks over the store: what a client's command does with a lock.
use Rattle.std.specs.Prelude.{ℕ, Bool, true, false, ◌&&◌, nat_lt, List, ◌++◌, length, take, drop, Option, Some, None, if◌then◌else◌, codes}
use Rattle.std.specs.Fmt.{decimal}
use Rattle.std.specs.Option.{option_eq}
use Rattle.std.specs.Str.{bytes_eq}
use Rattle.nz_store.specs.declared.command.Command.{Command}
use Rattle.nz_store.specs.declared.command.Command.TheVariants.{Put, Get, Del, Cas}
use Rattle.nz_store.specs.Reading.{command_of}
use Rattle.nz_locks.specs.declared.uses.UseRef.{UseRef}
use Rattle.nz_locks.specs.declared.uses.UseRef.TheVariants as lent

-- What the key of a lock begins with. The lock's name follows.
abbrev pub lock_prefix : List ℕ
lock_prefix = codes "lock."

-- The key of the lock of this name.
abbrev pub lock_key : List ℕ → List ℕ
lock_key name = lock_prefix ++ name

-- Whether a key is one of locks.
abbrev pub is_lock_key : List ℕ → Bool
is_lock_key key = bytes_eq (take 5 key) lock_prefix

-- The name of the lock with this key.
abbrev pub name_in : List ℕ → List ℕ
name_in key = drop 5 key

-- The value of a lock that the client holds.
abbrev pub holder_value : ℕ → List ℕ
holder_value client = codes "c" ++ decimal client

-- What a command does with a lock.
pub data Use : Type 0 where
  Acquire : (name : List ℕ) → Use
  Release : (name : List ℕ) → Use
  Foul : Use
  Other : Use

-- A client takes a lock by giving the absent key its value, and gives it back by taking that value away. No other
-- swap of a lock's value may be, and there is no lock without a name.
abbrev pub swap_use : ℕ → List ℕ → Option (List ℕ) → Option (List ℕ) → Use
swap_use client name old new =
    let own = Some (holder_value client) in
    if nat_lt 0 (length name) && (option_eq bytes_eq old None && option_eq bytes_eq new own) then Acquire name
    else (if nat_lt 0 (length name) && (option_eq bytes_eq old own && option_eq bytes_eq new None) then Release name else Foul)

-- A command that sets or removes a key may not have a lock's.
abbrev pub change_use : List ℕ → Use
change_use key = if is_lock_key key then Foul else Other

-- What the client's command does with a lock. Locks may be read, and no command but an acquire and a release may set one.
abbrev pub command_use : ℕ → Command → Use
command_use client (Put key value) = change_use key
command_use client (Get key) = Other
command_use client (Del key) = change_use key
command_use client (Cas key old new) = if is_lock_key key then swap_use client (name_in key) old new else Other

-- The same of a command that may not be there.
abbrev pub found_use : ℕ → Option Command → Use
found_use client None = Other
found_use client (Some command) = command_use client command

-- The same of some bytes.
abbrev pub use_of : ℕ → List ℕ → Use
use_of client bytes = found_use client (command_of bytes)

-- Whether it is neither an acquire nor a release, and might change a lock.
abbrev pub is_foul_use : Use → Bool
is_foul_use (Acquire name) = false
is_foul_use (Release name) = false
is_foul_use Foul = true
is_foul_use Other = false

-- Whether the client's command is foul.
abbrev pub is_foul : ℕ → List ℕ → Bool
is_foul client bytes = is_foul_use (use_of client bytes)

-- A use whose name is lent.
abbrev pub use_lent : UseRef → Use
use_lent (lent.Acquire name) = Acquire name.now
use_lent (lent.Release name) = Release name.now
use_lent lent.Foul = Foul
use_lent lent.Other = Other
