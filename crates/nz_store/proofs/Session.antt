-- The definitions, on a session of seven commands.
use Rattle.std.proofs.Common.{◌≡◌, ℕ, List, [], ◌∷◌, refl}
use Rattle.nz_store.specs.declared.command.Answer.TheVariants.{Done, Absent, Differs}
use Rattle.nz_store.specs.Reading.{key_at, value_at, choice_at, command_body_at, command_at, command_of}
use Rattle.nz_store.specs.Sequence.{apply, apply_bytes, store_from, replies_from, replies}

-- get k, del k, cas k x y, cas k - y, cas k - z, cas k y -, get k
abbrev session : List (List ℕ)
session =
    (2 ∷ 1 ∷ 107 ∷ []) ∷
    (3 ∷ 1 ∷ 107 ∷ []) ∷
    (4 ∷ 1 ∷ 107 ∷ 1 ∷ 0 ∷ 1 ∷ 120 ∷ 1 ∷ 0 ∷ 1 ∷ 121 ∷ []) ∷
    (4 ∷ 1 ∷ 107 ∷ 0 ∷ 1 ∷ 0 ∷ 1 ∷ 121 ∷ []) ∷
    (4 ∷ 1 ∷ 107 ∷ 0 ∷ 1 ∷ 0 ∷ 1 ∷ 122 ∷ []) ∷
    (4 ∷ 1 ∷ 107 ∷ 1 ∷ 0 ∷ 1 ∷ 121 ∷ 0 ∷ []) ∷
    (2 ∷ 1 ∷ 107 ∷ []) ∷ []

answers_of_the_session : replies session ≡ Absent ∷ Absent ∷ Absent ∷ Done ∷ Differs ∷ Done ∷ Absent ∷ []
unfolding key_at value_at choice_at command_body_at command_at command_of apply apply_bytes store_from replies_from
answers_of_the_session = refl
