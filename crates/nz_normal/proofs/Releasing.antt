-- Releasing one entry after the other, as a loop does.
use Rattle.std.proofs.Common.{◌≡◌, ℕ, ◌+◌, ◌-◌, ◌<◌, true, false, cond, List, [], ◌∷◌, ◌++◌, length, map, refl, sym, ap, subst, ◌∙◌, append_assoc, arith}
use Rattle.std.proofs.lemmas.List.{append-nil, map-append}
use Rattle.std.specs.Map.{lookup}
use Rattle.nz_base.specs.declared.actor.Actor.TheVariants.{Replica}
use Rattle.nz_base.specs.declared.key.Id.{Id}
use Rattle.nz_base.specs.declared.key.Entry.{Entry}
use Rattle.nz_base.specs.Key.{id_eq, id_of}
use Rattle.nz_machine.specs.declared.event.Parcel.{Parcel}
use Rattle.nz_machine.specs.rules.State.{ReplicaData, Out}
use Rattle.nz_machine.specs.rules.Facts.{ReplicaModel}
use Rattle.nz_machine.specs.rules.Replicas.{is_normal, fast_replies}
use Rattle.nz_machine.specs.rules.Releases.{may_release, first_may, after_release, release_replies, releases}
use Rattle.nz_machine.specs.rules.Step.{parcel}

-- what is left to release leads to the end
pub record Releases (f me : ℕ) (end : ReplicaData × List Parcel) (model : ReplicaModel) (sends : List Parcel) : Type 0 where
  pub size : model.f ≡ f
  pub number : model.me ≡ me
  pub normal : is_normal model.state.status ≡ true
  pub state : (releases f me model.state model.state.early).0 ≡ end.0
  pub all : sends ++ map (parcel (Replica me)) (releases f me model.state model.state.early).1 ≡ end.1

-- the reply to what was released last
pub replied : (model new : ReplicaModel) (id : Id) (place : ℕ) (e : Entry) (es : List Entry) (sends after : List Parcel) → model.state.early ≡ e ∷ es
    → ((e : Entry) (es : List Entry) → model.state.early ≡ e ∷ es
    → (id ≡ id_of e.key) × (new ≡ record model { state = after_release model.f model.me model.state e es }))
    → length new.state.log.entries ≡ length model.state.log.entries + 1 → place ≡ length model.state.log.entries
    → after ≡ sends ++ map (parcel (Replica new.me)) (fast_replies new.f new.me new.state id place (lookup (id_eq id) new.state.origin))
    → after ≡ sends ++ map (parcel (Replica model.me)) (release_replies model.f model.me (after_release model.f model.me model.state e es) e)
replied model new id place e es sends after is h grown at sent =
    let last : place ≡ length new.state.log.entries - 1 = omega (arith, grown, at) in
    sent ∙ ap (λ (n : ℕ). sends ++ map (parcel (Replica new.me)) (fast_replies new.f new.me new.state id n (lookup (id_eq id) new.state.origin))) last
    ∙ (λ i.
    let seen : ReplicaModel = (h e es is).1 i in
    let own : Id = (h e es is).0 i in
    sends ++ map (parcel (Replica seen.me))
    (fast_replies seen.f seen.me seen.state own (length seen.state.log.entries - 1) (lookup (id_eq own) seen.state.origin)))

abbrev after_first : ℕ → ℕ → ReplicaData → Entry → List Entry → ReplicaData × List Out
after_first f me s e es =
    let next = after_release f me s e es in
    ((releases f me next es).0, release_replies f me next e ++ (releases f me next es).1)

release_is : (f me : ℕ) (s : ReplicaData) (e : Entry) (es : List Entry) → may_release s e ≡ true → releases f me s (e ∷ es) ≡ after_first f me s e es
unfolding releases
release_is f me s e es p = ap (λ b. cond b (after_first f me s e es) (s, [])) p

stop_is : (f me : ℕ) (s : ReplicaData) (es : List Entry) → first_may s es ≡ false → releases f me s es ≡ (s, [])
unfolding releases
stop_is f me s [] q = refl
stop_is f me s (e ∷ es) q = ap (λ b. cond b (after_first f me s e es) (s, [])) q

pub goes_on : (f me : ℕ) (end : ReplicaData × List Parcel) (model new : ReplicaModel) (sends after : List Parcel) (early : List Entry)
    → model.state.early ≡ early → first_may model.state early ≡ true
    → ((e : Entry) (es : List Entry) → model.state.early ≡ e ∷ es → new ≡ record model { state = after_release model.f model.me model.state e es })
    → ((e : Entry) (es : List Entry) → model.state.early ≡ e ∷ es
    → after ≡ sends ++ map (parcel (Replica model.me)) (release_replies model.f model.me (after_release model.f model.me model.state e es) e))
    → Releases f me end model sends → Releases f me end new after
goes_on f me end model new sends after [] is may h k r = absurd cc
goes_on f me end model new sends after (e ∷ es) is may h k r =
    let next = after_release f me model.state e es in
    let one : releases f me model.state model.state.early ≡ after_first f me model.state e es =
    ap (releases f me model.state) is ∙ release_is f me model.state e es may in
    let new-is : new ≡ record { f = f; me = me; state = next } =
    h e es is ∙ (λ i. record { f = r.size i; me = r.number i; state = after_release (r.size i) (r.number i) model.state e es }) in
    let after-is : after ≡ sends ++ map (parcel (Replica me)) (release_replies f me next e) =
    k e es is ∙ (λ i. sends ++ map (parcel (Replica (r.number i)))
    (release_replies (r.size i) (r.number i) (after_release (r.size i) (r.number i) model.state e es) e)) in
    let sent = ap (λ (t : ReplicaData × List Out). sends ++ map (parcel (Replica me)) t.1) one in
    let done : Releases f me end (record { f = f; me = me; state = next }) after = record {
      size = refl;
      number = refl;
      normal = r.normal;
      state = sym (ap (λ (t : ReplicaData × List Out). t.0) one) ∙ r.state;
      all = ap (λ (x : List Parcel). x ++ map (parcel (Replica me)) (releases f me next es).1) after-is
          ∙ append_assoc sends _ _
          ∙ ap (λ (x : List Parcel). sends ++ x) (sym (map-append (parcel (Replica me)) (release_replies f me next e) (releases f me next es).1))
          ∙ sym sent ∙ r.all;
    } in
    subst (λ (v : ReplicaModel). Releases f me end v after) (sym new-is) done

pub is_done : (f me : ℕ) (end : ReplicaData × List Parcel) (model : ReplicaModel) (sends : List Parcel)
    → first_may model.state model.state.early ≡ false → Releases f me end model sends
    → (model ≡ record { f = f; me = me; state = end.0 }) × (sends ≡ end.1)
is_done f me end model sends over r =
    let one = stop_is f me model.state model.state.early over in
    let state-is : model.state ≡ end.0 = sym (ap (λ (t : ReplicaData × List Out). t.0) one) ∙ r.state in
    let sends-is : sends ≡ end.1 = sym (ap (λ (t : ReplicaData × List Out). sends ++ map (parcel (Replica me)) t.1) one ∙ append-nil sends) ∙ r.all in
    (λ i. record { f = r.size i; me = r.number i; state = state-is i }, sends-is)

-- Before the loop nothing is released yet, and all that is due is left.
pub begins : (model : ReplicaModel) (sends : List Parcel) → is_normal model.state.status ≡ true
    → Releases model.f model.me (
      (releases model.f model.me model.state model.state.early).0,
      sends ++ map (parcel (Replica model.me)) (releases model.f model.me model.state model.state.early).1,
    ) model sends
begins model sends normal = record { size = refl; number = refl; normal = normal; state = refl; all = refl }

-- a release leaves fewer
pub fewer : (model new : ReplicaModel) (early : List Entry) → model.state.early ≡ early → first_may model.state early ≡ true
    → ((e : Entry) (es : List Entry) → model.state.early ≡ e ∷ es → new ≡ record model { state = after_release model.f model.me model.state e es })
    → length new.state.early < length model.state.early
fewer model new [] is may h = absurd cc
fewer model new (e ∷ es) is may h = omega (arith, ap length is, ap (λ (v : ReplicaModel). length v.state.early) (h e es is))
