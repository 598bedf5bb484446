-- What a reading has found stays true as it takes one more record.
use Rattle.std.proofs.Common.{◌≡◌, ℕ, false, cond, eqb, List, [], ◌∷◌, ◌++◌, Bool, true}
use Rattle.std.proofs.Common.{Option, Some, None, Result, Ok, Err, refl, sym, ap, subst, ◌∙◌, inl, inr, eqb-true}
use Rattle.std.proofs.lemmas.Bool.{cases_Bool}
use Rattle.std.specs.Prelude.{OnOk, nat_eq}
use Rattle.indexmap.specs.IndexMap.{get}
use Rattle.std.specs.List.{list_any}
use Rattle.std.specs.Option.{option_map, option_and_then, option_flatten}
use Rattle.nz_base.specs.Actor.{actor_eq}
use Rattle.nz_base.specs.declared.actor.Actor.{Actor}
use Rattle.nz_base.specs.declared.actor.Actor.TheVariants.{Replica, Proxy, Client}
use Rattle.nz_base.specs.declared.key.Id.{Id}
use Rattle.nz_base.specs.Key.{id_eq}
use Rattle.nz_msg.specs.declared.envelope.Envelope.{Envelope}
use Rattle.nz_msg.specs.declared.message.Message.{Message}
use Rattle.nz_msg.specs.declared.message.Message.TheVariants.{Request, FastReply, SlowReply}
use Rattle.nz_machine.specs.declared.event.Event.{Event}
use Rattle.nz_machine.specs.declared.event.Event.TheVariants.{Deliver, Cut, Tick, Alarm, Crash, Restart}
use Rattle.nz_machine.specs.declared.event.Parcel.{Parcel}
use Rattle.nz_machine.specs.declared.event.Record.{Record}
use Rattle.nz_machine.specs.declared.journal.Journal.{Journal}
use Rattle.nz_machine.specs.journals.Journals.{group_in}
use Rattle.nz_machine.specs.rules.State.{ProxyData, Standing, Open, Decided, Group}
use Rattle.nz_machine.specs.declared.reply.Reply.{Reply}
use Rattle.nz_machine.specs.rules.Quorums.{reply_eq}
use Rattle.nz_machine.specs.rules.Proxies.{standing_of, of_fast, of_slow}
use Rattle.nz_machine.specs.rules.Step.{accepted_envelope}
use Rattle.nz_machine.specs.runs.World.{state_after, World}
use Rattle.nz_machine.specs.runs.History.{standing_after, source_of_sender, is_decided, source_at_decision}
use Rattle.nz_machine.proofs.runs.Runs.{stays}
use Rattle.nz_audit.specs.declared.accepted.answers.Source.{Source}
use Rattle.nz_audit.specs.declared.sources.notes.Notes.{Notes}
use Rattle.nz_audit.specs.declared.sources.notes.Noted.{Noted}
use Rattle.nz_audit.specs.declared.sources.notes.Noted.TheVariants as noted
use Rattle.nz_audit.specs.declared.sources.proxy.ProxyNotes.{ProxyNotes}
use Rattle.nz_audit.specs.declared.sources.sendings.ParcelKey.{ParcelKey}
use Rattle.nz_audit.specs.declared.sources.reading.Reading.{Reading}
use Rattle.nz_audit.specs.Sources.{in_numbers, about, stands_for, source_sent, source_delivered}
use Rattle.nz_audit.specs.Noting.{with_source, decided_source, noted_if_decided, noted_after_request, noted_by, source_if_answer}
use Rattle.nz_audit.specs.Noting.{after_message, after_envelope, after_event, down_after, decided_in, IsSized}
use Rattle.nz_audit.specs.Memories.{memory_of, memory}
use Rattle.nz_audit.specs.Readings.{known_to, is_down_in, IsProxy, IsTable, IsRead}
use Rattle.nz_audit.proofs.ProxyMemories.{memory_stays, no_decision}
use Rattle.nz_audit.proofs.ProxyEvents.{source_in, memory_after, down_then}

-- ---- results

pub on_three : {A E P Q R S : Type 0} (r : Result A E) → (P → Q → R → S) → OnOk r P → OnOk r Q → OnOk r R → OnOk r S
on_three (Ok a) f p q s = f p q s
on_three (Err e) f p q s = tt

-- ---- proxies

pub proxy_stays : (g : Group) (w : Id → Bool) (q : ℕ) (r : Record) (J : List Record) (notes : Option ProxyNotes)
    → actor_eq r.actor (Proxy q) ≡ false → IsProxy g w J q notes → IsProxy g w (r ∷ J) q notes
proxy_stays g w q r J notes other h =
    let same = stays g (Proxy q) r J other in
    record {
      down = h.down ∙ ap (λ (s : ProxyData). s.is_down) (sym same);
      known = λ id wanted. h.known id wanted ∙ sym (memory_stays g q id r J (ap (λ (s : ProxyData). standing_of s id) same));
      sized = h.sized;
    }

pub no_proxy : (a : Actor) (q : ℕ) → ((x : ℕ) → a ≡ Proxy x → ⊥) → actor_eq a (Proxy q) ≡ false
no_proxy (Replica m) q other = refl
no_proxy (Proxy x) q other = absurd (other x refl)
no_proxy (Client c) q other = refl

pub event_source : (g : Group) (w : Id → Bool) (J : List Record) (table : List (ParcelKey × Option Source)) (e : Event) → IsTable g w J table
    → source_in g w J e (source_delivered table e)
event_source g w J table (Deliver p) t = λ no_other. ap option_flatten (t.exact p no_other)
event_source g w J table (Cut kept p) t = tt
event_source g w J table (Tick clock) t = tt
event_source g w J table Alarm t = tt
event_source g w J table Crash t = tt
event_source g w J table (Restart nonce) t = tt

-- ---- what is known stays of the cluster's size

sized_source : (f : ℕ) (notes : Notes) (reply : Reply) (source : Option Source) → notes.tally.f ≡ f → (with_source notes reply source).tally.f ≡ f
sized_source f notes reply source h = by_new (list_any (reply_eq reply) notes.tally.replies)
  where
    by_new : (b : Bool) → (cond b notes (record {
      tally = record notes.tally { replies = notes.tally.replies ++ reply ∷ [] };
      sources = notes.sources ++ source ∷ [];
    })).tally.f ≡ f
    by_new true = h
    by_new false = h

sized_decided : (f : ℕ) (notes : Notes) (o : Option (Option Source)) → notes.tally.f ≡ f → IsSized f (Some (noted_if_decided notes o))
sized_decided f notes None h = h
sized_decided f notes (Some source) h = tt

sized_loud : (f : ℕ) (silent : Bool) (notes : Notes) → notes.tally.f ≡ f
    → IsSized f (Some (cond silent (noted.Open notes) (noted_if_decided notes (decided_source notes))))
sized_loud f true notes h = h
sized_loud f false notes h = sized_decided f notes (decided_source notes) h

sized_noted : (f : ℕ) (silent : Bool) (reply : Reply) (source : Option Source) (known : Option Noted) → IsSized f known
    → IsSized f (option_map (noted_by silent reply source) known)
sized_noted f silent reply source None h = tt
sized_noted f silent reply source (Some (noted.Open notes)) h = sized_loud f silent (with_source notes reply source) (sized_source f notes reply source h)
sized_noted f silent reply source (Some (noted.Decided s)) h = tt

sized_opened : (f : ℕ) (known : Option Noted) → IsSized f known → IsSized f (noted_after_request f known)
sized_opened f None h = refl
sized_opened f (Some noted) h = h

sized_either : (f : ℕ) (b : Bool) (a c : Option Noted) → IsSized f a → IsSized f c → IsSized f (cond b a c)
sized_either f true a c h k = h
sized_either f false a c h k = k

sized_message : (f : ℕ) (source : Option Source) (silent : Bool) (id : Id) (from : Actor) (m : Message) (known : Option Noted) → IsSized f known
    → IsSized f (after_message f source silent id from m known)
sized_message f source silent id (Client c) (Request b) known h =
    sized_either f (id_eq (record { client = c; num = b.num }) id) (noted_after_request f known) known (sized_opened f known h) h
sized_message f source silent id (Replica r) (FastReply b) known h =
    let s = source_if_answer source (of_fast r b) in
    sized_either f (id_eq b.id id) (option_map (noted_by silent (of_fast r b) s) known) known (sized_noted f silent (of_fast r b) s known h) h
sized_message f source silent id (Replica r) (SlowReply b) known h =
    let s = source_if_answer source (of_slow r b) in
    sized_either f (id_eq b.id id) (option_map (noted_by silent (of_slow r b) s) known) known (sized_noted f silent (of_slow r b) s known h) h
sized_message f source silent id _ _ known h = h

sized_envelope : (f : ℕ) (source : Option Source) (silent down : Bool) (id : Id) (o : Option Envelope) (known : Option Noted) → IsSized f known
    → IsSized f (after_envelope f source silent down id o known)
sized_envelope f source silent down id None known h = h
sized_envelope f source silent down id (Some e) known h =
    sized_either f down known (after_message f source silent id e.from e.message known) h (sized_message f source silent id e.from e.message known h)

sized_event : (f me : ℕ) (source : Option Source) (silent down : Bool) (id : Id) (e : Event) (known : Option Noted) → IsSized f known
    → IsSized f (after_event f me source silent down id e known)
sized_event f me source silent down id (Deliver p) known h = sized_envelope f source silent down id (accepted_envelope f (Proxy me) p) known h
sized_event f me source silent down id (Cut kept p) known h = h
sized_event f me source silent down id (Tick clock) known h = h
sized_event f me source silent down id Alarm known h = h
sized_event f me source silent down id Crash known h = tt
sized_event f me source silent down id (Restart nonce) known h = sized_either f down None known tt h

-- ---- a record of a proxy

-- what it knows of a wanted request is as after the event, and what it knows is of the cluster's size
record Takes (g : Group) (w : Id → Bool) (q : ℕ) (r : Record) (s : Option Source) (silent : Bool) (before after : Option ProxyNotes) : Type 0 where
  down : is_down_in after ≡ down_after r.event (is_down_in before)
  known : (id : Id) → w id ≡ true → known_to after id ≡ after_event g.f q s silent (is_down_in before) id r.event (known_to before id)
  sized : (id : Id) → IsSized g.f (known_to after id)

own_takes : (g : Group) (w : Id → Bool) (q : ℕ) (r : Record) (J : List Record) (s : Option Source) (silent : Bool) (before after : Option ProxyNotes)
    → World g (r ∷ J) → r.actor ≡ Proxy q → source_in g w J r.event s → (silent ≡ true → r.sends ≡ []) → IsProxy g w J q before
    → Takes g w q r s silent before after → IsProxy g w (r ∷ J) q after
own_takes g w q r J s silent before after world by from none h takes = record {
  down = takes.down ∙ ap (down_after r.event) h.down ∙ sym (down_then g q r J by);
  known = λ id wanted. takes.known id wanted ∙ (λ i. after_event g.f q s silent (h.down i) id r.event (h.known id wanted i))
      ∙ sym (memory_after g w q id r J s silent world wanted by from none);
  sized = takes.sized;
}

each_takes : (g : Group) (w : Id → Bool) (k q : ℕ) (r : Record) (J : List Record) (s : Option Source) (silent : Bool)
    (own_before own_after before after : Option ProxyNotes) → World g (r ∷ J) → r.actor ≡ Proxy q → source_in g w J r.event s
    → (silent ≡ true → r.sends ≡ [])
    → (q ≡ k → (before ≡ own_before) × (after ≡ own_after)) → (eqb q k ≡ false → after ≡ before)
    → (IsProxy g w J q own_before → Takes g w q r s silent own_before own_after) → IsProxy g w J k before
    → IsProxy g w (r ∷ J) k after
each_takes g w k q r J s silent own_before own_after before after world by from none own others takes h = elim (cases_Bool (eqb q k)) [
  | inl same ↦
      let at = eqb-true q k same in
      let is = own at in
      let h_own : IsProxy g w J q own_before = subst (λ (n : ℕ). IsProxy g w J n own_before) (sym at) (subst (IsProxy g w J k) is.0 h) in
      subst (IsProxy g w (r ∷ J) k) (sym is.1)
      (subst (λ (n : ℕ). IsProxy g w (r ∷ J) n own_after) at (own_takes g w q r J s silent own_before own_after world by from none h_own (takes h_own)))
  | inr other ↦ subst (IsProxy g w (r ∷ J) k) (sym (others other)) (proxy_stays g w k r J before (ap (λ (a : Actor). actor_eq a (Proxy k)) by ∙ other) h)
]

pub proxy_takes_it : (g : Group) (w : Id → Bool) (k q f : ℕ) (r : Record) (J : List Record) (s : Option Source) (silent : Bool)
    (own_before own_after before after : Option ProxyNotes) → World g (r ∷ J) → r.actor ≡ Proxy q → g.f ≡ f → source_in g w J r.event s
    → (silent ≡ true → r.sends ≡ [])
    → (q ≡ k → (before ≡ own_before) × (after ≡ own_after)) → (eqb q k ≡ false → after ≡ before)
    → is_down_in own_after ≡ down_after r.event (is_down_in own_before)
    → ((id : Id) → known_to own_after id ≡ after_event f q s silent (is_down_in own_before) id r.event (known_to own_before id)) → IsProxy g w J k before
    → IsProxy g w (r ∷ J) k after
proxy_takes_it g w k q f r J s silent own_before own_after before after world by is_f from none own others down known =
    let same : (id : Id) → known_to own_after id ≡ after_event g.f q s silent (is_down_in own_before) id r.event (known_to own_before id) =
    λ id. known id ∙ ap (λ (n : ℕ). after_event n q s silent (is_down_in own_before) id r.event (known_to own_before id)) (sym is_f) in
    each_takes g w k q r J s silent own_before own_after before after world by from none own others (λ h. record {
      down = down;
      known = λ id wanted. same id;
      sized = λ id. subst (IsSized g.f) (sym (same id)) (sized_event g.f q s silent (is_down_in own_before) id r.event (known_to own_before id) (h.sized id));
    })

-- one that brings a request that is not wanted
pub proxy_ignores : (g : Group) (w : Id → Bool) (k q : ℕ) (r : Record) (J : List Record) (table : List (ParcelKey × Option Source))
    (notes own : Option ProxyNotes) → World g (r ∷ J) → r.actor ≡ Proxy q → IsTable g w J table → (q ≡ k → notes ≡ own)
    → ((down : Bool) → down_after r.event down ≡ down)
    → ((id : Id) → w id ≡ true → (f me : ℕ) (s : Option Source) (silent down : Bool) (known : Option Noted)
    → after_event f me s silent down id r.event known ≡ known) → IsProxy g w J k notes → IsProxy g w (r ∷ J) k notes
proxy_ignores g w k q r J table notes own world by t same down known =
    let s = source_delivered table r.event in
    each_takes g w k q r J s false own own notes notes world by (event_source g w J table r.event t) (λ is. absurd cc)
    (λ at. (same at, same at)) (λ other. refl) (λ h. record {
      down = sym (down (is_down_in own));
      known = λ id wanted. sym (known id wanted g.f q s false (is_down_in own) (known_to own id));
      sized = h.sized;
    })

decided_of : (g : Group) (q : ℕ) (id : Id) (J : List Record) (o : Option Standing) → standing_after g q id J ≡ o
    → decided_in (memory_of g q id J o) ≡ in_numbers (source_of_sender g id (Proxy q) J)
decided_of g q id J None e =
    ap (λ (m : Option (List Record)). in_numbers (option_and_then (source_at_decision g q id) m)) (sym (no_decision g q id J (ap is_decided e)))
decided_of g q id J (Some (Open replies)) e =
    ap (λ (m : Option (List Record)). in_numbers (option_and_then (source_at_decision g q id) m)) (sym (no_decision g q id J (ap is_decided e)))
decided_of g q id J (Some (Decided a p)) e = refl

pub decided_by : (g : Group) (q : ℕ) (id : Id) (J : List Record) (notes : Option ProxyNotes) (s : Option Source)
    → known_to notes id ≡ memory g q id J → s ≡ decided_in (known_to notes id) → s ≡ source_sent g id (Proxy q) J
decided_by g q id J notes s known is =
    is ∙ ap decided_in known ∙ ap (λ (o : Option Standing). decided_in (memory_of g q id J o)) refl
    ∙ decided_of g q id J (standing_after g q id J) refl

-- ---- before the first record

pub proxy_first : (g : Group) (w : Id → Bool) (q : ℕ) → IsProxy g w [] q None
unfolding state_after
proxy_first g w q = record { down = refl; known = λ id wanted. refl; sized = λ id. tt }

pub table_first : (g : Group) (w : Id → Bool) → IsTable g w [] []
table_first g w = record { exact = λ p no_other. nothing p (about p) }
  where
    nothing : (p : Parcel) (o : Option Id) → None ≡ stands_for g p None o
    nothing p None = refl
    nothing p (Some id) = refl

-- ---- after a record

pub is_read : (journal : Journal) (w : Id → Bool) (run K : List Record) (reading : Reading) → run ≡ K
    → ((q : ℕ) → IsProxy (group_in journal) w K q (get nat_eq reading.proxies q)) → IsTable (group_in journal) w K reading.sendings.kept.entries
    → IsRead journal w run reading
is_read journal w run K reading e proxies table =
    subst (λ (x : List Record). IsRead journal w x reading) (sym e) (record { proxies = proxies; table = table })
