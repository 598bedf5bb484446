-- What a command that is not foul does to a lock in the store.
use Rattle.std.proofs.Common.{◌≡◌, ℕ, Bool, true, false, cond, List, ◌++◌, length, take, drop, Option, Some, None, refl, sym, ap, subst, ◌∙◌, inl}
use Rattle.std.proofs.Common.{inr, take-append-drop}
use Rattle.std.specs.Prelude.{◌&&◌, nat_lt}
use Rattle.std.specs.Option.{option_eq}
use Rattle.std.specs.Str.{bytes_eq}
use Rattle.std.proofs.lemmas.Bool.{cases_Bool, and_parts}
use Rattle.std.proofs.lemmas.Slice.Eq.{bytes_eq-Decides}
use Rattle.nz_store.specs.declared.command.Command.{Command}
use Rattle.nz_store.specs.declared.command.Command.TheVariants.{Put, Get, Del, Cas}
use Rattle.nz_store.specs.declared.command.Answer.{Answer}
use Rattle.nz_store.specs.declared.command.Answer.TheVariants.{Done}
use Rattle.nz_store.specs.Reading.{command_of}
use Rattle.nz_store.specs.Entries.{Entries, value_of, with_value, without_key, with_choice}
use Rattle.nz_store.specs.Sequence.{value_answer, removal_answer, refusal_answer, swap, apply, apply_found, apply_bytes}
use Rattle.nz_store.proofs.Maps.{value_of-with_value, value_of-without}
use Rattle.nz_locks.specs.Uses.{lock_prefix, lock_key, is_lock_key, name_in, holder_value, Use, Acquire, Release, Foul, Other}
use Rattle.nz_locks.specs.Uses.{swap_use, change_use, command_use, found_use, use_of, is_foul_use, is_foul}
use Rattle.nz_locks.specs.Tenures.{is_done, is_acquire_of, is_release_of}

-- ---- the outcomes

-- What a use by this client made of the value of the lock of the name: it was given, taken away, or left.
pub data Effect (client : ℕ) (name : List ℕ) (u : Use) (before after : Option (List ℕ)) : Type 0 where
  took : is_acquire_of name u ≡ true → is_release_of name u ≡ false → before ≡ None → after ≡ Some (holder_value client) → Effect client name u before after
  gave : is_acquire_of name u ≡ false → is_release_of name u ≡ true → before ≡ Some (holder_value client) → after ≡ None → Effect client name u before after
  kept : is_acquire_of name u ≡ false → is_release_of name u ≡ false → after ≡ before → Effect client name u before after

-- ---- keys

other_key : (key name : List ℕ) → is_lock_key key ≡ false → bytes_eq (lock_key name) key ≡ false
other_key key name away = elim (cases_Bool (bytes_eq (lock_key name) key)) [
  | inl same ↦ let e : is_lock_key key ≡ true = ap is_lock_key (sym ((bytes_eq-Decides (lock_key name) key).0 same)) in absurd cc
  | inr other ↦ other
]

lock_parts : (key : List ℕ) → is_lock_key key ≡ true → key ≡ lock_key (name_in key)
lock_parts key e =
    sym (take-append-drop 5 key) ∙ ap (λ (p : List ℕ). p ++ drop 5 key) ((bytes_eq-Decides (take 5 key) lock_prefix).0 e)

other_name : (name n : List ℕ) → bytes_eq n name ≡ false → bytes_eq (lock_key name) (lock_key n) ≡ false
other_name name n away = elim (cases_Bool (bytes_eq (lock_key name) (lock_key n))) [
  | inl same ↦
      let names = ap (drop 5) ((bytes_eq-Decides (lock_key name) (lock_key n)).0 same) in
      let e : bytes_eq n name ≡ true = (bytes_eq-Decides n name).1 (sym names) in
      absurd cc
  | inr other ↦ other
]

-- what a choice leaves at another key, and at its own
choice_elsewhere : (s : Entries) (key other : List ℕ) (value : Option (List ℕ)) → bytes_eq other key ≡ false
    → value_of (with_choice s key value) other ≡ value_of s other
choice_elsewhere s key other (Some value) away =
    value_of-with_value s key value other ∙ ap (λ (b : Bool). cond b (Some value) (value_of s other)) away
choice_elsewhere s key other None away = value_of-without s key other ∙ ap (λ (b : Bool). cond b None (value_of s other)) away

choice_here : (s : Entries) (key : List ℕ) (value : Option (List ℕ)) → value_of (with_choice s key value) key ≡ value
choice_here s key (Some value) =
    value_of-with_value s key value key
    ∙ ap (λ (b : Bool). cond b (Some value) (value_of s key)) ((bytes_eq-Decides key key).1 refl)
choice_here s key None =
    value_of-without s key key ∙ ap (λ (b : Bool). cond b None (value_of s key)) ((bytes_eq-Decides key key).1 refl)

-- ---- swaps

same_choice : (o p : Option (List ℕ)) → option_eq bytes_eq o p ≡ true → o ≡ p
same_choice None None e = refl
same_choice None (Some w) e = absurd cc
same_choice (Some v) None e = absurd cc
same_choice (Some v) (Some w) e = ap Some ((bytes_eq-Decides v w).0 e)

-- what a swap of a lock may be
data Swapping (client : ℕ) (n : List ℕ) (old new : Option (List ℕ)) (u : Use) : Type 0 where
  taking : old ≡ None → new ≡ Some (holder_value client) → u ≡ Acquire n → Swapping client n old new u
  giving : old ≡ Some (holder_value client) → new ≡ None → u ≡ Release n → Swapping client n old new u
  fouling : u ≡ Foul → Swapping client n old new u

swapping : (client : ℕ) (n : List ℕ) (old new : Option (List ℕ)) → Swapping client n old new (swap_use client n old new)
swapping client n old new =
    let own = Some (holder_value client) in
    let named = nat_lt 0 (length n) in
    let takes = option_eq bytes_eq old None && option_eq bytes_eq new own in
    let gives = option_eq bytes_eq old own && option_eq bytes_eq new None in
    elim (cases_Bool (named && takes)) [
      | inl a ↦
          let p = and_parts (option_eq bytes_eq old None) (option_eq bytes_eq new own) (and_parts named takes a).1 in
          taking (same_choice old None p.0) (same_choice new own p.1)
          (ap (λ (b : Bool). cond b (Acquire n) (cond (named && gives) (Release n) Foul)) a)
      | inr b ↦ elim (cases_Bool (named && gives)) [
        | inl a ↦
            let p = and_parts (option_eq bytes_eq old own) (option_eq bytes_eq new None) (and_parts named gives a).1 in
            giving (same_choice old own p.0) (same_choice new None p.1)
            (ap (λ (x : Bool). cond x (Acquire n) (cond (named && gives) (Release n) Foul)) b ∙ ap (λ (x : Bool). cond x (Release n) Foul) a)
        | inr c ↦
            fouling (ap (λ (x : Bool). cond x (Acquire n) (cond (named && gives) (Release n) Foul)) b ∙ ap (λ (x : Bool). cond x (Release n) Foul) c)
      ]
    ]

swapped : (client : ℕ) (n name : List ℕ) (old new : Option (List ℕ)) (u : Use) (s : Entries) → Swapping client n old new u → is_foul_use u ≡ false
    → value_of s (lock_key n) ≡ old → Effect client name u (value_of s (lock_key name)) (value_of (with_choice s (lock_key n) new) (lock_key name))
swapped client n name old new u s (taking from to is) clean had = elim (cases_Bool (bytes_eq n name)) [
  | inl same ↦
      let key : lock_key n ≡ lock_key name = ap lock_key ((bytes_eq-Decides n name).0 same) in
      took (ap (is_acquire_of name) is ∙ same) (ap (is_release_of name) is)
      (ap (value_of s) (sym key) ∙ had ∙ from)
      (ap (λ (k : List ℕ). value_of (with_choice s (lock_key n) new) k) (sym key) ∙ choice_here s (lock_key n) new ∙ to)
  | inr away ↦
      kept (ap (is_acquire_of name) is ∙ away) (ap (is_release_of name) is)
      (choice_elsewhere s (lock_key n) (lock_key name) new (other_name name n away))
]
swapped client n name old new u s (giving from to is) clean had = elim (cases_Bool (bytes_eq n name)) [
  | inl same ↦
      let key : lock_key n ≡ lock_key name = ap lock_key ((bytes_eq-Decides n name).0 same) in
      gave (ap (is_acquire_of name) is) (ap (is_release_of name) is ∙ same)
      (ap (value_of s) (sym key) ∙ had ∙ from)
      (ap (λ (k : List ℕ). value_of (with_choice s (lock_key n) new) k) (sym key) ∙ choice_here s (lock_key n) new ∙ to)
  | inr away ↦
      kept (ap (is_acquire_of name) is) (ap (is_release_of name) is ∙ away)
      (choice_elsewhere s (lock_key n) (lock_key name) new (other_name name n away))
]
swapped client n name old new u s (fouling is) clean had = let e : true ≡ false = sym (ap is_foul_use is) ∙ clean in absurd cc

-- ---- one command

other_if : (done : Bool) (u : Use) → u ≡ Other → cond done u Other ≡ Other
other_if true u e = e
other_if false u e = refl

-- a use that is no lock's keeps the value
ordinary : (client : ℕ) (name : List ℕ) (u : Use) (before after : Option (List ℕ)) → u ≡ Other → after ≡ before → Effect client name u before after
ordinary client name u before after is same = kept (ap (is_acquire_of name) is) (ap (is_release_of name) is) same

not_lock : (key : List ℕ) → is_foul_use (change_use key) ≡ false → is_lock_key key ≡ false
not_lock key clean = elim (cases_Bool (is_lock_key key)) [
  | inl lock ↦ let e : true ≡ false = sym (ap (λ (b : Bool). is_foul_use (cond b Foul Other)) lock) ∙ clean in absurd cc
  | inr other ↦ other
]

change_other : (key : List ℕ) → is_lock_key key ≡ false → change_use key ≡ Other
change_other key away = ap (λ (b : Bool). cond b Foul Other) away

-- a swap's result, by its test
swap_done : (s : Entries) (key : List ℕ) (old new : Option (List ℕ)) → option_eq bytes_eq (value_of s key) old ≡ true
    → swap s key old new ≡ (with_choice s key new, Done)
swap_done s key old new e = ap (λ (b : Bool). cond b (with_choice s key new, Done) (s, refusal_answer (value_of s key))) e

swap_refused : (s : Entries) (key : List ℕ) (old new : Option (List ℕ)) → option_eq bytes_eq (value_of s key) old ≡ false
    → swap s key old new ≡ (s, refusal_answer (value_of s key))
swap_refused s key old new e = ap (λ (b : Bool). cond b (with_choice s key new, Done) (s, refusal_answer (value_of s key))) e

refusal_not_done : (o : Option (List ℕ)) → is_done (refusal_answer o) ≡ false
refusal_not_done None = refl
refusal_not_done (Some v) = refl

-- what an application leaves, and what it did
abbrev Outcome : ℕ → List ℕ → Use → Entries → Entries × Answer → Type 0
Outcome client name u s t = Effect client name (cond (is_done t.1) u Other) (value_of s (lock_key name)) (value_of t.0 (lock_key name))

lock_swap : (client : ℕ) (s : Entries) (n name : List ℕ) (old new : Option (List ℕ)) → is_foul_use (swap_use client n old new) ≡ false
    → Outcome client name (swap_use client n old new) s (swap s (lock_key n) old new)
lock_swap client s n name old new clean = elim (cases_Bool (option_eq bytes_eq (value_of s (lock_key n)) old)) [
  | inl same ↦
      subst (Outcome client name (swap_use client n old new) s) (sym (swap_done s (lock_key n) old new same))
      (swapped client n name old new (swap_use client n old new) s (swapping client n old new) clean (same_choice (value_of s (lock_key n)) old same))
  | inr other ↦
      subst (Outcome client name (swap_use client n old new) s) (sym (swap_refused s (lock_key n) old new other))
      (ordinary client name (cond (is_done (refusal_answer (value_of s (lock_key n)))) (swap_use client n old new) Other)
      (value_of s (lock_key name)) (value_of s (lock_key name))
      (ap (λ (b : Bool). cond b (swap_use client n old new) Other) (refusal_not_done (value_of s (lock_key n)))) refl)
]

swap_elsewhere : (s : Entries) (key other : List ℕ) (old new : Option (List ℕ)) → bytes_eq other key ≡ false
    → value_of (swap s key old new).0 other ≡ value_of s other
swap_elsewhere s key other old new away = elim (cases_Bool (option_eq bytes_eq (value_of s key) old)) [
  | inl same ↦ ap (λ (t : Entries × Answer). value_of t.0 other) (swap_done s key old new same) ∙ choice_elsewhere s key other new away
  | inr differs ↦ ap (λ (t : Entries × Answer). value_of t.0 other) (swap_refused s key old new differs)
]

one_swap : (client : ℕ) (s : Entries) (key name : List ℕ) (old new : Option (List ℕ)) (b : Bool) → is_lock_key key ≡ b
    → is_foul_use (cond b (swap_use client (name_in key) old new) Other) ≡ false
    → Outcome client name (cond b (swap_use client (name_in key) old new) Other) s (swap s key old new)
one_swap client s key name old new true lock clean =
    subst (λ (k : List ℕ). Outcome client name (swap_use client (name_in key) old new) s (swap s k old new)) (sym (lock_parts key lock))
    (lock_swap client s (name_in key) name old new clean)
one_swap client s key name old new false lock clean =
    ordinary client name (cond (is_done (swap s key old new).1) Other Other) (value_of s (lock_key name)) (value_of (swap s key old new).0 (lock_key name))
    (other_if (is_done (swap s key old new).1) Other refl) (swap_elsewhere s key (lock_key name) old new (other_key key name lock))

command_effect : (client : ℕ) (s : Entries) (name : List ℕ) (c : Command) → is_foul_use (command_use client c) ≡ false
    → Outcome client name (command_use client c) s (apply s c)
unfolding apply
command_effect client s name (Put key value) clean =
    let away = not_lock key clean in
    ordinary client name (change_use key) (value_of s (lock_key name)) (value_of (with_value s key value) (lock_key name)) (change_other key away)
    (choice_elsewhere s key (lock_key name) (Some value) (other_key key name away))
command_effect client s name (Get key) clean =
    ordinary client name (cond (is_done (value_answer (value_of s key))) Other Other) (value_of s (lock_key name)) (value_of s (lock_key name))
    (other_if (is_done (value_answer (value_of s key))) Other refl) refl
command_effect client s name (Del key) clean =
    let away = not_lock key clean in
    ordinary client name (cond (is_done (removal_answer (value_of s key))) (change_use key) Other) (value_of s (lock_key name))
    (value_of (without_key s key) (lock_key name)) (other_if (is_done (removal_answer (value_of s key))) (change_use key) (change_other key away))
    (choice_elsewhere s key (lock_key name) None (other_key key name away))
command_effect client s name (Cas key old new) clean = one_swap client s key name old new (is_lock_key key) refl clean

found_effect : (client : ℕ) (s : Entries) (name : List ℕ) (o : Option Command) → is_foul_use (found_use client o) ≡ false
    → Outcome client name (found_use client o) s (apply_found s o)
found_effect client s name None clean = kept refl refl refl
found_effect client s name (Some c) clean = command_effect client s name c clean

-- What a clean command does to the value of a lock is what its use says.
pub effect : (client : ℕ) (s : Entries) (name bytes : List ℕ) → is_foul client bytes ≡ false
    → Effect client name (cond (is_done (apply_bytes s bytes).1) (use_of client bytes) Other) (value_of s (lock_key name))
    (value_of (apply_bytes s bytes).0 (lock_key name))
unfolding apply_bytes
effect client s name bytes clean = found_effect client s name (command_of bytes) clean
