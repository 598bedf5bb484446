-- What the code keeps, against what the machine says is known.
use Rattle.std.proofs.Common.{◌≡◌, ℕ, ◌≤◌, List, [], ◌∷◌, Option, Some, None, refl, sym, ap, subst, inl, inr, Bor}
use Rattle.std.proofs.lemmas.Bool.{cases_Bool}
use Rattle.std.specs.Prelude.{IfSome, IsSome}
use Rattle.std.specs.List.{AllByRecursion}
use Rattle.std.specs.Map.{lookup, set_value}
use Rattle.std.specs.Option.{option_map, option_copied}
use Rattle.indexmap.specs.IndexMap.{insert_entry}
use Rattle.nz_base.specs.declared.key.Id.{Id}
use Rattle.nz_base.specs.Key.{id_eq}
use Rattle.nz_base.proofs.Names.{same_id}
use Rattle.nz_machine.specs.rules.State.{Standing as StandingModel}
use Rattle.nz_proxy.specs.declared.standing.Standing.{Standing}
use Rattle.nz_proxy.specs.Standings.{known_standing, known_standings, IsFitStanding, IsFitEntry}

pub known_lookup : (id : Id) (es : List (Id × Standing)) → option_map known_standing (lookup (id_eq id) es) ≡ lookup (id_eq id) (known_standings es)
known_lookup id [] = refl
known_lookup id (e ∷ es) =
    elim (cases_Bool (id_eq id e.0)) [
      | inl here ↦ rw here refl
      | inr away ↦ rw away (known_lookup id es)
    ]

pub known_insert : (es : List (Id × Standing)) (id : Id) (s : Standing)
    → known_standings (insert_entry id_eq es id s) ≡ insert_entry id_eq (known_standings es) id (known_standing s)
known_insert [] id s = refl
known_insert (e ∷ es) id s =
    elim (cases_Bool (id_eq id e.0)) [
      | inl here ↦ rw here refl
      | inr away ↦ rw away (ap (λ (rest : List (Id × StandingModel)). (e.0, known_standing e.1) ∷ rest) (known_insert es id s))
    ]

-- a value that is there is written over
pub set_is_insert : (es : List (Id × Standing)) (id : Id) (s : Standing) → IsSome (lookup (id_eq id) es)
    → set_value (id_eq id) es s ≡ insert_entry id_eq es id s
set_is_insert [] id s there = absurd cc
set_is_insert (e ∷ es) id s there =
    elim (cases_Bool (id_eq id e.0)) [
      | inl here ↦ rw here refl
      | inr away ↦ rw away (ap (λ (rest : List (Id × Standing)). e ∷ rest) (set_is_insert es id s (rw away at there)))
    ]

pub fit_insert : (f : ℕ) (es : List (Id × Standing)) (id : Id) (s : Standing) → id.client ≤ 63 → IsFitStanding f s
    → AllByRecursion (IsFitEntry f) es → AllByRecursion (IsFitEntry f) (insert_entry id_eq es id s)
fit_insert f [] id s client fit all = (record { client = client; standing = fit }, tt)
fit_insert f (e ∷ es) id s client fit all =
    elim (cases_Bool (id_eq id e.0)) [
      | inl here ↦ rw here (record { client = all.0.client; standing = fit }, all.1)
      | inr away ↦ rw away (all.0, fit_insert f es id s client fit all.1)
    ]

-- what is found is fit, and of a client
pub record IsFound (f : ℕ) (id : Id) (s : Standing) : Type 0 where
  pub client : id.client ≤ 63
  pub standing : IsFitStanding f s

pub fit_lookup : (f : ℕ) (id : Id) (es : List (Id × Standing)) → AllByRecursion (IsFitEntry f) es → IfSome (lookup (id_eq id) es) (IsFound f id)
fit_lookup f id [] all = tt
fit_lookup f id (e ∷ es) all =
    elim (cases_Bool (id_eq id e.0)) [
      | inl here ↦ rw here (record { client = subst (λ (i : Id). i.client ≤ 63) (sym (same_id id e.0 here)) all.0.client; standing = all.0.standing })
      | inr away ↦ rw away (fit_lookup f id es all.1)
    ]

-- ---- of what is lent

pub known_borrowed : (o : Option (Bor Standing)) → option_map {U = StandingModel} (λ s. known_standing s.now) o ≡ option_map known_standing (option_copied o)
known_borrowed None = refl
known_borrowed (Some s) = refl

pub fit_borrowed : (f : ℕ) (id : Id) (o : Option (Bor Standing)) (x : Option Standing) → option_copied o ≡ x
    → IfSome x (IsFound f id) → IfSome o (λ s. IsFitStanding f s.now)
fit_borrowed f id None x e fit = tt
fit_borrowed f id (Some s) x e fit = let found = subst (λ (y : Option Standing). IfSome y (IsFound f id)) (sym e) fit in found.standing

pub fit_set : (f : ℕ) (es : List (Id × Standing)) (id : Id) (s : Standing) → IsFitStanding f s
    → AllByRecursion (IsFitEntry f) es → AllByRecursion (IsFitEntry f) (set_value (id_eq id) es s)
fit_set f [] id s fit all = tt
fit_set f (e ∷ es) id s fit all =
    elim (cases_Bool (id_eq id e.0)) [
      | inl here ↦ rw here (record { client = all.0.client; standing = fit }, all.1)
      | inr away ↦ rw away (all.0, fit_set f es id s fit all.1)
    ]
