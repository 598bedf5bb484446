-- The table of what was sent first, in the course of a record.
use Rattle.std.proofs.Common.{◌≡◌, Bool, true, false, cond, ◌||◌, List, [], ◌∷◌, ◌++◌, Option, Some, None, refl, sym, ap, subst, ◌∙◌, inl, inr}
use Rattle.std.proofs.lemmas.Bool.{cases_Bool}
use Rattle.std.specs.Prelude.{is_some}
use Rattle.std.specs.List.{list_any}
use Rattle.std.specs.Option.{option_map, option_flatten}
use Rattle.std.proofs.lemmas.List.Folds.{list_any-append}
use Rattle.std.proofs.lemmas.Option.{none-some, same_Some, cond_some}
use mathlib.Core.Bool.{or-false, or-true}
use Rattle.nz_base.specs.declared.key.Id.{Id}
use Rattle.nz_base.proofs.Booleans.{true_and_false}
use Rattle.nz_machine.specs.declared.event.Event.{Event}
use Rattle.nz_machine.specs.declared.event.Event.TheVariants.{Deliver, Cut, Tick, Alarm, Crash, Restart}
use Rattle.nz_machine.specs.declared.event.Parcel.{Parcel}
use Rattle.nz_machine.specs.declared.event.Record.{Record}
use Rattle.nz_machine.specs.rules.State.{Group}
use Rattle.nz_machine.specs.runs.World.{World, MayHappen}
use Rattle.nz_machine.specs.runs.History.{parcel_eq, older_or, source}
use Rattle.nz_machine.proofs.runs.Sources.{parcel_eq_self, same_parcel, has_source, source_stays}
use Rattle.nz_audit.specs.declared.accepted.answers.Source.{Source}
use Rattle.nz_audit.specs.declared.sources.sendings.ParcelKey.{ParcelKey}
use Rattle.nz_audit.specs.Sources.{about, if_wanted, IsNoOther, source_sent, stands_for, delivered_source, kept_of, source_delivered}
use Rattle.nz_audit.specs.Prefixes.{Brings}
use Rattle.nz_audit.specs.Readings.{source_with, IsTable, IsTableWith}

-- ---- the first record that sent a parcel, with one more

any_with : (p s : Parcel) (done : List Parcel) (b : Bool) → parcel_eq p s ≡ b → list_any (parcel_eq p) (done ++ s ∷ []) ≡ (list_any (parcel_eq p) done || b)
any_with p s done b e =
    list_any-append (parcel_eq p) done (s ∷ []) ∙ ap (λ x. list_any (parcel_eq p) done || (x || false)) e
    ∙ ap (λ x. list_any (parcel_eq p) done || x) (or-false b)

with_other : (p s : Parcel) (done : List Parcel) (r : Record) (J : List Record) → parcel_eq p s ≡ false
    → source_with p (done ++ s ∷ []) r J ≡ source_with p done r J
with_other p s done r J h = ap (λ b. cond b (older_or (source p J) (r ∷ J)) (source p J)) (any_with p s done false h ∙ or-false (list_any (parcel_eq p) done))

with_itself : (s : Parcel) (done : List Parcel) (r : Record) (J : List Record) → source_with s (done ++ s ∷ []) r J ≡ older_or (source s J) (r ∷ J)
with_itself s done r J =
    ap (λ b. cond b (older_or (source s J) (r ∷ J)) (source s J)) (any_with s s done true (parcel_eq_self s) ∙ or-true (list_any (parcel_eq s) done))

sent_already : (o : Option (List Record)) (now K : List Record) (b : Bool) → cond b (older_or o now) o ≡ Some K → older_or o now ≡ Some K
sent_already o now K true e = e
sent_already (Some L) now K false e = e
sent_already None now K false e = absurd (none-some K e)

not_sent : (o : Option (List Record)) (now : List Record) (b : Bool) → cond b (older_or o now) o ≡ None → older_or o now ≡ Some now
not_sent (Some L) now true e = absurd (none-some L (sym e))
not_sent (Some L) now false e = absurd (none-some L (sym e))
not_sent None now b e = refl

-- ---- the table with one more

still_other : (g : Group) (s p : Parcel) (done : List Parcel) (r : Record) (J : List Record) (table : List (ParcelKey × Option Source))
    → parcel_eq p s ≡ false → kept_of table p ≡ stands_for g p (source_with p done r J) (about p)
    → kept_of table p ≡ stands_for g p (source_with p (done ++ s ∷ []) r J) (about p)
still_other g s p done r J table h e = e ∙ ap (λ (o : Option (List Record)). stands_for g p o (about p)) (sym (with_other p s done r J h))

by_parcel : (s p : Parcel) (P : Parcel → Type 0) → (s ≡ p → P p) → (parcel_eq p s ≡ false → P p) → P p
by_parcel s p P same other = elim (cases_Bool (parcel_eq p s)) [ inl e ↦ same (sym (same_parcel p s e)) | inr e ↦ other e ]

-- one that is about nothing, where it is about no other request than a wanted one
about_nothing : (w : Id → Bool) (o : Option Id) → if_wanted w o ≡ None → IsNoOther w o → o ≡ None
about_nothing w None none h = refl
about_nothing w (Some id) none h = absurd (none-some id (sym none ∙ ap (λ b. cond b (Some id) None) h))

pub wanted_is : (w : Id → Bool) (o : Option Id) (id : Id) → if_wanted w o ≡ Some id → (o ≡ Some id) × (w id ≡ true)
wanted_is w None id e = absurd (none-some id e)
wanted_is w (Some x) id e = let k = cond_some (w x) x id e in (ap Some k.1, ap w (sym k.1) ∙ k.0)

pub unwanted_about : (w : Id → Bool) (o : Option Id) (shown : Id) → ((id : Id) → o ≡ Some id → Some shown ≡ Some id) → w shown ≡ false
    → if_wanted w o ≡ None
unwanted_about w None shown is away = refl
unwanted_about w (Some id) shown is away = ap (λ b. cond b (Some id) None) (ap w (sym (same_Some shown id (is id refl))) ∙ away)

pub only_wanted : (w : Id → Bool) (o : Option Id) (shown : Id) → ((id : Id) → o ≡ Some id → Some shown ≡ Some id) → w shown ≡ true
    → o ≡ if_wanted w o
only_wanted w None shown is wanted = refl
only_wanted w (Some id) shown is wanted = sym (ap (λ b. cond b (Some id) None) (ap w (sym (same_Some shown id (is id refl))) ∙ wanted))

-- a parcel that stands for nothing that is wanted
pub table_passes : (g : Group) (w : Id → Bool) (s : Parcel) (done : List Parcel) (r : Record) (J : List Record) (table : List (ParcelKey × Option Source))
    → if_wanted w (about s) ≡ None → IsTableWith g w done r J table → IsTableWith g w (done ++ s ∷ []) r J table
table_passes g w s done r J table none h = record {
  exact = λ p no_other. by_parcel s p (λ (x : Parcel). kept_of table x ≡ stands_for g x (source_with x (done ++ s ∷ []) r J) (about x))
      (λ same. let nothing : about p ≡ None = about_nothing w (about p) (ap (λ (x : Parcel). if_wanted w (about x)) (sym same) ∙ none) no_other in
      h.exact p no_other ∙ ap (stands_for g p (source_with p done r J)) nothing ∙ sym (ap (stands_for g p (source_with p (done ++ s ∷ []) r J)) nothing))
      (λ other. still_other g s p done r J table other (h.exact p no_other));
}

found_first : (g : Group) (s : Parcel) (first : Option (List Record)) (o : Option Id)
    → is_some (stands_for g s first o) ≡ true → (K : List Record) × (first ≡ Some K)
found_first g s first None h = absurd cc
found_first g s None (Some id) h = absurd cc
found_first g s (Some K) (Some id) h = (K, refl)

-- one that was sent before
pub table_has : (g : Group) (w : Id → Bool) (s : Parcel) (done : List Parcel) (r : Record) (J : List Record) (table : List (ParcelKey × Option Source))
    → IsNoOther w (about s) → is_some (kept_of table s) ≡ true → IsTableWith g w done r J table → IsTableWith g w (done ++ s ∷ []) r J table
table_has g w s done r J table wanted there h =
    let own = h.exact s wanted in
    let k = found_first g s (source_with s done r J) (about s) (ap is_some (sym own) ∙ there) in
    let same : source_with s (done ++ s ∷ []) r J ≡ source_with s done r J =
    with_itself s done r J ∙ sent_already (source s J) (r ∷ J) k.0 (list_any (parcel_eq s) done) k.1 ∙ sym k.1 in
    record {
      exact = λ p no_other. by_parcel s p (λ (x : Parcel). kept_of table x ≡ stands_for g x (source_with x (done ++ s ∷ []) r J) (about x))
          (λ is. subst (λ (x : Parcel). kept_of table x
          ≡ stands_for g x (source_with x (done ++ s ∷ []) r J) (about x)) is
          (own ∙ ap (λ (o : Option (List Record)). stands_for g s o (about s)) (sym same)))
          (λ other. still_other g s p done r J table other (h.exact p no_other));
    }

absent_first : (g : Group) (s : Parcel) (id : Id) (first : Option (List Record)) → is_some (stands_for g s first (Some id)) ≡ false → first ≡ None
absent_first g s id None h = refl
absent_first g s id (Some K) h = absurd cc

-- a new one
pub table_keeps : (g : Group) (w : Id → Bool) (s : Parcel) (id : Id) (done : List Parcel) (r : Record) (J : List Record)
    (old new : List (ParcelKey × Option Source)) (value : Option Source) → about s ≡ Some id → w id ≡ true → is_some (kept_of old s) ≡ false
    → value ≡ source_sent g id s.from (r ∷ J)
    → ((p : Parcel) → kept_of new p ≡ cond (parcel_eq s p) (Some value) (kept_of old p)) → IsTableWith g w done r J old
    → IsTableWith g w (done ++ s ∷ []) r J new
table_keeps g w s id done r J old new value is wanted away value_is kept h =
    let none =
    absent_first g s id (source_with s done r J)
    (ap (λ (o : Option Id). is_some (stands_for g s (source_with s done r J) o)) (sym is)
    ∙ ap is_some (sym (h.exact s (subst (IsNoOther w) (sym is) wanted))) ∙ away) in
    let now : source_with s (done ++ s ∷ []) r J ≡ Some (r ∷ J) = with_itself s done r J ∙ not_sent (source s J) (r ∷ J) (list_any (parcel_eq s) done) none in
    let own : kept_of new s ≡ stands_for g s (source_with s (done ++ s ∷ []) r J) (about s) =
    kept s ∙ ap (λ b. cond b (Some value) (kept_of old s)) (parcel_eq_self s) ∙ ap Some value_is
    ∙ sym (ap (stands_for g s (source_with s (done ++ s ∷ []) r J)) is ∙ ap (option_map (source_sent g id s.from)) now) in
    record {
      exact = λ p no_other. by_parcel s p (λ (x : Parcel). kept_of new x ≡ stands_for g x (source_with x (done ++ s ∷ []) r J) (about x))
          (λ same. subst (λ (x : Parcel). kept_of new x ≡ stands_for g x (source_with x (done ++ s ∷ []) r J) (about x)) same own)
          (λ other. kept p ∙ ap (λ b. cond b (Some value) (kept_of old p)) (apart p other) ∙ still_other g s p done r J old other (h.exact p no_other));
    }
  where
    apart : (p : Parcel) → parcel_eq p s ≡ false → parcel_eq s p ≡ false
    apart p other = elim (cases_Bool (parcel_eq s p)) [
      | inl e ↦ absurd (true_and_false (parcel_eq p s) (ap (λ (x : Parcel). parcel_eq p x) (same_parcel s p e) ∙ parcel_eq_self p) other)
      | inr e ↦ e
    ]

-- ---- before and after the record

pub table_starts : (g : Group) (w : Id → Bool) (r : Record) (J : List Record) (table : List (ParcelKey × Option Source)) → IsTable g w J table
    → IsTableWith g w [] r J table
table_starts g w r J table h = record { exact = h.exact }

pub table_ends : (g : Group) (w : Id → Bool) (r : Record) (J : List Record) (table : List (ParcelKey × Option Source))
    → IsTableWith g w r.sends r J table → IsTable g w (r ∷ J) table
table_ends g w r J table h = record { exact = h.exact }

-- ---- after the last record

source_then : (newer J : List Record) (p : Parcel) (K : List Record) → source p J ≡ Some K → source p (newer ++ J) ≡ Some K
source_then [] J p K e = e
source_then (r ∷ newer) J p K e = source_stays p r (newer ++ J) K (source_then newer J p K e)

-- what was delivered was sent before, so that its source stays
pub source_at_end : (g : Group) (w : Id → Bool) (id : Id) (r : Record) (newer J run : List Record) (table : List (ParcelKey × Option Source)) (e : Event)
    → World g (r ∷ J) → run ≡ newer ++ (r ∷ J) → r.event ≡ e → Brings id e → w id ≡ true → IsTable g w run table
    → source_delivered table e ≡ delivered_source g J e
source_at_end g w id r newer J run table (Deliver p) world whole is brings wanted h =
    let sent = has_source p J (subst (MayHappen J r.actor) is world.0.event).1 in
    let last : source p run ≡ source p J =
    ap (source p) whole ∙ source_then newer (r ∷ J) p sent.0 (source_stays p r J sent.0 sent.1) ∙ sym sent.1 in
    ap option_flatten (h.exact p (subst (IsNoOther w) (sym brings) wanted))
    ∙ ap (λ (o : Option (List Record)). option_flatten (stands_for g p o (about p))) last
source_at_end g w id r newer J run table (Cut kept p) world whole is brings wanted h = refl
source_at_end g w id r newer J run table (Tick clock) world whole is brings wanted h = refl
source_at_end g w id r newer J run table Alarm world whole is brings wanted h = refl
source_at_end g w id r newer J run table Crash world whole is brings wanted h = refl
source_at_end g w id r newer J run table (Restart nonce) world whole is brings wanted h = refl
