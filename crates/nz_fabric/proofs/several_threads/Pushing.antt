-- The records of a batch are recorded, one after another.
use Rattle.std.proofs.Common.{◌≡◌, ℕ, ◌+◌, ◌<◌, List, [], ◌∷◌, ◌++◌, length, map, refl, sym, ap, ◌∙◌, subst, arith, ◌⊎◌, inl, inr}
use Rattle.std.proofs.Common.{append-nil, append_assoc, length-append}
use Rattle.std.specs.Prelude.{reverse}
use Rattle.std.proofs.lemmas.List.{map-append, length-map}
use Rattle.nz_base.specs.declared.actor.Actor.{Actor}
use Rattle.nz_machine.specs.declared.event.Event.{Event}
use Rattle.nz_machine.specs.declared.event.Parcel.{Parcel}
use Rattle.nz_machine.specs.declared.event.Record.{Record}
use Rattle.nz_machine.specs.rules.State.{Group, State}
use Rattle.nz_machine.specs.rules.Step.{Node, node_run}
use Rattle.nz_machine.proofs.runs.Runs.{acts_itself}
use Rattle.nz_fabric.specs.threads.Records.{ActorSteps, AddsSome, steps_of, with_step}
use Rattle.nz_fabric.specs.threads.Steps.{batch_records, node_after, sends_from, step_of, with_steps}

-- an event, with what was sent on it, as a record
abbrev pub step_with : ℕ → Actor → Event × List Parcel → Record
step_with tick a p = step_of tick a p.0 p.1

-- the records of a batch
pub record Batched : Type 0 where
  pub tick : ℕ
  pub actor : Actor
  pub events : List Event
  pub sends : List (List Parcel)

-- these of them are recorded, and those of these events are left
pub record ArePushed (g : Group) (b : Batched) (own own' : ActorSteps) (records records' : List Record)
    (done : List (Event × List Parcel)) (events : List Event) (sends : List (List Parcel)) : Type 0 where
  pub whole : batch_records b.tick b.actor b.events b.sends ≡ map (step_with b.tick b.actor) done ++ batch_records b.tick b.actor events sends
  pub added : records' ≡ records ++ map (step_with b.tick b.actor) done
  pub steps : own' ≡ with_steps (map (step_with b.tick b.actor) done) own
  pub actor : own'.actor ≡ b.actor
  pub sent : sends ≡ sends_from g (node_after g own') events
  pub known : 0 < length done → own ≡ steps_of b.actor (reverse records)
  pub long : length done + length events ≡ length b.events

-- ---- the start

pub pushed_start : (g : Group) (b : Batched) (own : ActorSteps) (records : List Record) → own.actor ≡ b.actor
    → b.sends ≡ sends_from g (node_after g own) b.events → ArePushed g b own own records records [] b.events b.sends
pushed_start g b own records same sent = record {
  whole = refl;
  added = sym (append-nil records);
  steps = refl;
  actor = same;
  sent = sent;
  known = λ lt. absurd (omega (arith, lt));
  long = omega arith;
}

-- ---- one record more

-- what is left begins with these
pub pushed_at : (g : Group) (b : Batched) (own own' : ActorSteps) (records records' : List Record) (done : List (Event × List Parcel))
    (e : Event) (left events : List Event) (sent : List Parcel) (left_sends sends : List (List Parcel))
    → ArePushed g b own own' records records' done left left_sends → left ≡ e ∷ events → left_sends ≡ sent ∷ sends
    → ArePushed g b own own' records records' done (e ∷ events) (sent ∷ sends)
pushed_at g b own own' records records' done e left events sent left_sends sends h first first_sent =
    subst (λ (es : List Event). ArePushed g b own own' records records' done es (sent ∷ sends)) first
    (subst (ArePushed g b own own' records records' done left) first_sent h)

last_step : (rs : List Record) (r : Record) (own : ActorSteps) → with_steps (rs ++ r ∷ []) own ≡ with_step r (with_steps rs own)
last_step [] r own = refl
last_step (x ∷ rs) r own = last_step rs r (with_step x own)

-- with one record more the node is where its step leads it to
pub node_with_step : (g : Group) (own : ActorSteps) (r : Record) → r.actor ≡ own.actor
    → node_after g (with_step r own) ≡ (node_run g (node_after g own) r.event).0
node_with_step g own r same =
    ap (λ (s : State own.actor). let n : Node = record { actor = own.actor; state = s } in n)
    (acts_itself g own.actor r own.steps same)

-- what is sent on the next event
pub pushed_sent : (g : Group) (b : Batched) (own own' : ActorSteps) (records records' : List Record) (done : List (Event × List Parcel))
    (e : Event) (events : List Event) (sent : List Parcel) (sends : List (List Parcel))
    → ArePushed g b own own' records records' done (e ∷ events) (sent ∷ sends) → sent ≡ (node_run g (node_after g own') e).1
pushed_sent g b own own' records records' done e events sent sends h = let all = h.sent in cc

left_sent : (g : Group) (own : ActorSteps) (e : Event) (events : List Event) (sent : List Parcel) (sends : List (List Parcel))
    → sent ∷ sends ≡ sends_from g (node_after g own) (e ∷ events) → sends ≡ sends_from g (node_run g (node_after g own) e).0 events
left_sent g own e events sent sends all = cc

known_more : (g : Group) (b : Batched) (own own' : ActorSteps) (records records' : List Record) (done : List (Event × List Parcel))
    (events : List Event) (sends : List (List Parcel)) → ArePushed g b own own' records records' done events sends
    → own' ≡ steps_of b.actor (reverse records') → own ≡ steps_of b.actor (reverse records)
known_more g b own own' records records' [] events sends h seen =
    sym h.steps ∙ seen ∙ ap (λ (rs : List Record). steps_of b.actor (reverse rs)) (h.added ∙ append-nil records)
known_more g b own own' records records' (p ∷ done) events sends h seen = h.known (omega arith)

pub pushed_next : (g : Group) (b : Batched) (own own' own'' : ActorSteps) (records records' records'' : List Record) (done : List (Event × List Parcel))
    (e : Event) (events : List Event) (sent : List Parcel) (sends : List (List Parcel))
    → ArePushed g b own own' records records' done (e ∷ events) (sent ∷ sends)
    → records'' ≡ records' ++ step_of b.tick b.actor e sent ∷ [] → own' ≡ steps_of b.actor (reverse records')
    → own'' ≡ with_step (step_of b.tick b.actor e sent) own'
    → ArePushed g b own own'' records records'' (done ++ (e, sent) ∷ []) events sends
pushed_next g b own own' own'' records records' records'' done e events sent sends h added seen now =
    let r = step_of b.tick b.actor e sent in
    let steps = map (step_with b.tick b.actor) done in
    let more : map (step_with b.tick b.actor) (done ++ (e, sent) ∷ []) ≡ steps ++ r ∷ [] = map-append (step_with b.tick b.actor) done ((e, sent) ∷ []) in
    let count = length-append done ((e, sent) ∷ []) in
    let long = h.long in
    let whole = h.whole in
    let before = h.added in
    let own_before = h.steps in
    record {
      whole =
          whole ∙ sym (append_assoc steps (r ∷ []) (batch_records b.tick b.actor events sends))
          ∙ ap (λ (rs : List Record). rs ++ batch_records b.tick b.actor events sends) (sym more);
      added =
          added ∙ ap (λ (rs : List Record). rs ++ r ∷ []) before ∙ append_assoc records steps (r ∷ [])
          ∙ ap (λ (rs : List Record). records ++ rs) (sym more);
      steps =
          now ∙ ap (with_step r) own_before ∙ sym (last_step steps r own)
          ∙ ap (λ (rs : List Record). with_steps rs own) (sym more);
      actor = ap (λ (x : ActorSteps). x.actor) now ∙ h.actor;
      sent =
          left_sent g own' e events sent sends h.sent
          ∙ ap (λ (n : Node). sends_from g n events)
          (sym (ap (node_after g) now ∙ node_with_step g own' r (sym h.actor)));
      known = λ lt. known_more g b own own' records records' done (e ∷ events) (sent ∷ sends) h seen;
      long = omega (arith, count, long);
    }

-- ---- the end

-- something is sent on each event
pub length-sends_from : (g : Group) (n : Node) (events : List Event) → length (sends_from g n events) ≡ length events
length-sends_from g n [] = refl
length-sends_from g n (e ∷ events) = omega (arith, length-sends_from g (node_run g n e).0 events)

none_left : {X : Type 0} (xs : List X) → length xs ≡ 0 → xs ≡ []
none_left [] e = refl
none_left (x ∷ xs) e = absurd (omega (arith, e))

-- as many sends are left as events, so where none of the ones is left, none of the others is
pub pushed_end : (g : Group) (b : Batched) (own own' : ActorSteps) (records records' : List Record) (done : List (Event × List Parcel))
    (events : List Event) (sends : List (List Parcel)) → ArePushed g b own own' records records' done events sends
    → (length events ≡ 0) ⊎ (length sends ≡ 0) → events ≡ []
pushed_end g b own own' records records' done events sends h (inl none) = none_left events none
pushed_end g b own own' records records' done events sends h (inr none) =
    none_left events (sym (ap length h.sent ∙ length-sends_from g (node_after g own') events) ∙ none)

-- how many records there are
pub pushed_count : (g : Group) (b : Batched) (own own' : ActorSteps) (records records' : List Record) (done : List (Event × List Parcel))
    (events : List Event) (sends : List (List Parcel)) → ArePushed g b own own' records records' done events sends
    → length records' + length events ≡ length records + length b.events
pushed_count g b own own' records records' done events sends h =
    let long = h.long in
    let all = ap length h.added in
    let apart = length-append records (map (step_with b.tick b.actor) done) in
    let many = length-map done (step_with b.tick b.actor) in
    omega (arith, long, all, apart, many)

-- all are recorded
pub pushed_whole : (g : Group) (b : Batched) (own own' : ActorSteps) (records records' : List Record) (done : List (Event × List Parcel))
    (events : List Event) (sends : List (List Parcel)) → ArePushed g b own own' records records' done events sends → events ≡ []
    → map (step_with b.tick b.actor) done ≡ batch_records b.tick b.actor b.events b.sends
pushed_whole g b own own' records records' done events sends h none =
    sym (h.whole ∙ ap (λ (es : List Event). map (step_with b.tick b.actor) done ++ batch_records b.tick b.actor es sends) none
    ∙ append-nil (map (step_with b.tick b.actor) done))

-- some are recorded
pub pushed_some : (g : Group) (b : Batched) (own own' : ActorSteps) (records records' records'' : List Record) (done : List (Event × List Parcel))
    (events : List Event) (sends : List (List Parcel)) → ArePushed g b own own' records records' done events sends → records'' ≡ records'
    → AddsSome (batch_records b.tick b.actor b.events b.sends) records records''
pushed_some g b own own' records records' records'' done events sends h same = record {
  done = map (step_with b.tick b.actor) done;
  rest = batch_records b.tick b.actor events sends;
  whole = h.whole;
  added = same ∙ h.added;
}
