-- What a record makes of what a proxy knows of a request: the sources that are kept are those of the definition.
use Rattle.std.proofs.Common.{◌≡◌, ℕ, true, false, cond, eqb, List, [], ◌∷◌, ◌++◌, map, Option, Some, None, refl, sym, ap, ◌∙◌, inl, inr, Bool}
use Rattle.std.proofs.lemmas.Bool.{cases_Bool, and_parts, or_left, or_right}
use Rattle.std.specs.Prelude.{is_some}
use Rattle.std.specs.List.{list_any}
use Rattle.std.specs.Option.{option_map, option_and_then}
use Rattle.std.proofs.lemmas.List.{map-append}
use Rattle.std.proofs.lemmas.Option.{none-some}
use Rattle.nz_base.specs.declared.actor.Actor.TheVariants.{Proxy}
use Rattle.nz_base.specs.declared.key.Id.{Id}
use Rattle.nz_base.specs.Cluster.{leader_of}
use Rattle.nz_store.specs.declared.command.Answer.{Answer}
use Rattle.nz_machine.specs.declared.event.Parcel.{Parcel}
use Rattle.nz_machine.specs.declared.event.Record.{Record}
use Rattle.nz_machine.specs.declared.reply.Reply.{Reply}
use Rattle.nz_machine.specs.declared.reply.Reply.TheVariants.{Fast, Slow}
use Rattle.nz_machine.specs.rules.State.{Group, Standing, Open, Decided}
use Rattle.nz_machine.specs.rules.Quorums.{Chosen, decision, answer_in, is_of_leader, reply_eq, with_note}
use Rattle.nz_machine.specs.runs.World.{state_after, Has}
use Rattle.nz_machine.specs.runs.Events.{read_in}
use Rattle.nz_machine.specs.runs.History.{older_or, standing_after, is_decided, decision_moment, replies_of, reply_read, with_reply_noted, noting_moment}
use Rattle.nz_machine.specs.runs.History.{parcel_delivered, source_of, source_of_reply, source_at_decision, source_of_sender}
use Rattle.nz_machine.proofs.runs.Sources.{reply_eq_self}
use Rattle.nz_machine.proofs.facts.Choices.{decision_is}
use Rattle.nz_audit.specs.declared.accepted.answers.Source.{Source}
use Rattle.nz_audit.specs.declared.sources.notes.Notes.{Notes}
use Rattle.nz_audit.specs.declared.sources.notes.Noted.TheVariants as noted
use Rattle.nz_audit.specs.Sources.{in_numbers}
use Rattle.nz_audit.specs.Noting.{with_source, source_among, decided_source, noted_if_decided, noted_by, noted_after_request}
use Rattle.nz_audit.specs.Memories.{source_noted, memory_of, memory}
use Rattle.nz_audit.proofs.SourcesOfNotes.{place_among}

-- ---- lists

map_has : {X Y : Type 0} (f h : X → Y) (xs : List X) → ((x : X) → Has xs x → f x ≡ h x) → map f xs ≡ map h xs
map_has f h [] same = refl
map_has f h (x ∷ xs) same = λ i. same x (inl refl) i ∷ map_has f h xs (λ y k. same y (inr k)) i

reply_noted : (replies : List Reply) (x : Reply) → Has replies x → list_any (reply_eq x) replies ≡ true
reply_noted [] x h = absurd h
reply_noted (y ∷ replies) x (inl e) = or_left (reply_eq x y) (list_any (reply_eq x) replies) (ap (reply_eq x) e ∙ reply_eq_self x)
reply_noted (y ∷ replies) x (inr h) = or_right (reply_eq x y) (list_any (reply_eq x) replies) (reply_noted replies x h)

-- ---- moments of decisions

older_found : (o : Option (List Record)) (now : List Record) → (K : List Record) × (older_or o now ≡ Some K)
older_found (Some K) now = (K, refl)
older_found None now = (now, refl)

has_decision : (g : Group) (q : ℕ) (id : Id) (J : List Record) → is_decided (standing_after g q id J) ≡ true
    → (K : List Record) × (decision_moment g q id J ≡ Some K)
unfolding state_after
has_decision g q id [] h = absurd cc
has_decision g q id (r ∷ J) h =
    let k = older_found (decision_moment g q id J) (r ∷ J) in
    (k.0, ap (λ b. cond b (older_or (decision_moment g q id J) (r ∷ J)) None) h ∙ k.1)

pub no_decision : (g : Group) (q : ℕ) (id : Id) (J : List Record) → is_decided (standing_after g q id J) ≡ false → decision_moment g q id J ≡ None
no_decision g q id [] h = refl
no_decision g q id (r ∷ J) h = ap (λ b. cond b (older_or (decision_moment g q id J) (r ∷ J)) None) h

decided_still : (g : Group) (q : ℕ) (id : Id) (r : Record) (J : List Record)
    → is_decided (standing_after g q id J) ≡ true → is_decided (standing_after g q id (r ∷ J)) ≡ true
    → decision_moment g q id (r ∷ J) ≡ decision_moment g q id J
decided_still g q id r J before after =
    let k = has_decision g q id J before in
    ap (λ b. cond b (older_or (decision_moment g q id J) (r ∷ J)) None) after ∙ ap (λ (o : Option (List Record)). older_or o (r ∷ J)) k.1 ∙ sym k.1

-- ---- a record that leaves what is known

noted_still : (g : Group) (q : ℕ) (id : Id) (r : Record) (J : List Record) (x : Reply)
    → list_any (reply_eq x) (replies_of (standing_after g q id J)) ≡ true → source_noted g q id (r ∷ J) x ≡ source_noted g q id J x
noted_still g q id r J x h =
    ap (λ b. cond (is_some (answer_in x))
    (in_numbers (option_and_then (λ M. option_and_then (source_of M) (parcel_delivered M))
    (cond b (noting_moment g q id x J) (Some (r ∷ J))))) None) h

all_still : (g : Group) (q : ℕ) (id : Id) (r : Record) (J : List Record) (replies : List Reply)
    → standing_after g q id J ≡ Some (Open replies) → map (source_noted g q id (r ∷ J)) replies ≡ map (source_noted g q id J) replies
all_still g q id r J replies e =
    map_has (source_noted g q id (r ∷ J)) (source_noted g q id J) replies
    (λ x h. noted_still g q id r J x (ap (λ (o : Option Standing). list_any (reply_eq x) (replies_of o)) e ∙ reply_noted replies x h))

stays_at : (g : Group) (q : ℕ) (id : Id) (r : Record) (J : List Record) (o : Option Standing)
    → standing_after g q id J ≡ o → standing_after g q id (r ∷ J) ≡ o → memory_of g q id (r ∷ J) o ≡ memory_of g q id J o
stays_at g q id r J None e after = refl
stays_at g q id r J (Some (Open replies)) e after =
    ap (λ (s : List (Option Source)). Some
    (noted.Open (record { tally = record { f = g.f; replies = replies }; sources = s }))) (all_still g q id r J replies e)
stays_at g q id r J (Some (Decided a p)) e after =
    ap (λ (o : Option (List Record)). Some
    (noted.Decided (in_numbers (option_and_then (source_at_decision g q id) o))))
    (decided_still g q id r J (ap is_decided e) (ap is_decided after))

-- what is known stays where the standing does
pub memory_stays : (g : Group) (q : ℕ) (id : Id) (r : Record) (J : List Record)
    → standing_after g q id (r ∷ J) ≡ standing_after g q id J → memory g q id (r ∷ J) ≡ memory g q id J
memory_stays g q id r J same = ap (memory_of g q id (r ∷ J)) same ∙ stays_at g q id r J (standing_after g q id J) refl same

-- ---- a request is opened

abbrev pub standing_opened : Option Standing → Option Standing
standing_opened None = Some (Open [])
standing_opened (Some s) = Some s

opens_at : (g : Group) (q : ℕ) (id : Id) (r : Record) (J : List Record) (o : Option Standing)
    → standing_after g q id J ≡ o → standing_after g q id (r ∷ J) ≡ standing_opened o
    → memory_of g q id (r ∷ J) (standing_opened o) ≡ noted_after_request g.f (memory_of g q id J o)
opens_at g q id r J None e after = refl
opens_at g q id r J (Some (Open replies)) e after = stays_at g q id r J (Some (Open replies)) e after
opens_at g q id r J (Some (Decided a p)) e after = stays_at g q id r J (Some (Decided a p)) e after

pub memory_opens : (g : Group) (q : ℕ) (id : Id) (r : Record) (J : List Record)
    → standing_after g q id (r ∷ J) ≡ standing_opened (standing_after g q id J) → memory g q id (r ∷ J) ≡ noted_after_request g.f (memory g q id J)
memory_opens g q id r J after = ap (memory_of g q id (r ∷ J)) after ∙ opens_at g q id r J (standing_after g q id J) refl after

-- ---- a reply is noted

abbrev pub settled_with : List Reply → Option Chosen → Option Answer → Standing
settled_with replies (Some chosen) (Some answer) = Decided answer chosen.path
settled_with replies _ _ = Open replies

abbrev pub answer_chosen : Option Chosen → Option Answer
answer_chosen None = None
answer_chosen (Some chosen) = answer_in chosen.reply

abbrev pub settled : ℕ → List Reply → Standing
settled f replies = settled_with replies (decision f replies) (answer_chosen (decision f replies))

abbrev pub standing_noted : ℕ → Reply → Option Standing → Option Standing
standing_noted f reply None = None
standing_noted f reply (Some (Open replies)) = Some (settled f (with_note replies reply))
standing_noted f reply (Some (Decided answer path)) = Some (Decided answer path)

-- the record delivers the parcel with the reply, which has this source
pub record Brings (g : Group) (q : ℕ) (id : Id) (r : Record) (J : List Record) (p : Parcel) (reply : Reply) (source : Option Source) : Type 0 where
  pub parcel : parcel_delivered (r ∷ J) ≡ Some p
  pub read : reply_read id (read_in g (Proxy q) r.event) ≡ Some reply
  pub from : source ≡ cond (is_some (answer_in reply)) (in_numbers (source_of (r ∷ J) p)) None

new_source : (g : Group) (q : ℕ) (id : Id) (r : Record) (J : List Record) (p : Parcel) (reply : Reply) (source : Option Source)
    → Brings g q id r J p reply source → list_any (reply_eq reply) (replies_of (standing_after g q id J)) ≡ false
    → source_noted g q id (r ∷ J) reply ≡ source
new_source g q id r J p reply source b h =
    ap (λ t. cond (is_some (answer_in reply))
    (in_numbers (option_and_then (λ M. option_and_then (source_of M) (parcel_delivered M))
    (cond t (noting_moment g q id reply J) (Some (r ∷ J))))) None) h
    ∙ ap (λ (o : Option Parcel). cond (is_some (answer_in reply)) (in_numbers (option_and_then (source_of (r ∷ J)) o)) None) b.parcel ∙ sym b.from

-- the replies with their sources, after one more was noted
abbrev notes_of : Group → ℕ → Id → List Record → List Reply → Notes
notes_of g q id J replies = record { tally = record { f = g.f; replies = replies }; sources = map (source_noted g q id J) replies }

notes_then : (g : Group) (q : ℕ) (id : Id) (r : Record) (J : List Record) (p : Parcel) (reply : Reply)
    (source : Option Source) (replies : List Reply) → Brings g q id r J p reply source → standing_after g q id J ≡ Some (Open replies)
    → with_source (notes_of g q id J replies) reply source ≡ notes_of g q id (r ∷ J) (with_note replies reply)
notes_then g q id r J p reply source replies b e =
    let still = all_still g q id r J replies e in
    elim (cases_Bool (list_any (reply_eq reply) replies)) [
      | inl there ↦ rw there (ap (λ (s : List (Option Source)). record { tally = record { f = g.f; replies = replies }; sources = s }) (sym still))
      | inr new ↦
          let own = new_source g q id r J p reply source b (ap (λ (o : Option Standing). list_any (reply_eq reply) (replies_of o)) e ∙ new) in
          let sources : map (source_noted g q id J) replies ++ source ∷ [] ≡ map (source_noted g q id (r ∷ J)) (replies ++ reply ∷ []) =
          ap (λ (s : List (Option Source)). s ++ source ∷ []) (sym still)
          ∙ ap (λ (x : Option Source). map (source_noted g q id (r ∷ J)) replies ++ x ∷ []) (sym own)
          ∙ sym (map-append (source_noted g q id (r ∷ J)) replies (reply ∷ [])) in
          rw new (ap (λ (s : List (Option Source)). record { tally = record { f = g.f; replies = replies ++ reply ∷ [] }; sources = s }) sources)
    ]

-- the source of the reply that decides now
decides_now : (g : Group) (q : ℕ) (id : Id) (r : Record) (J : List Record) (p : Parcel) (reply : Reply)
    (source : Option Source) (replies : List Reply) (chosen : Chosen) (a : Answer) → Brings g q id r J p reply source
    → standing_after g q id J ≡ Some (Open replies) → decision g.f (with_note replies reply) ≡ Some chosen
    → answer_in chosen.reply ≡ Some a → standing_after g q id (r ∷ J) ≡ Some (Decided a chosen.path)
    → in_numbers (source_of_sender g id (Proxy q) (r ∷ J))
    ≡ source_among (map (source_noted g q id (r ∷ J)) (with_note replies reply)) (with_note replies reply) chosen.reply
decides_now g q id r J p reply source replies chosen a b e d answer after =
    let noted = with_note replies reply in
    let none = no_decision g q id J (ap is_decided e) in
    let moment : decision_moment g q id (r ∷ J) ≡ Some (r ∷ J) =
    ap (λ (o : Option Standing). cond (is_decided o) (older_or (decision_moment g q id J) (r ∷ J)) None) after
    ∙ ap (λ (o : Option (List Record)). older_or o (r ∷ J)) none in
    let at_last : with_reply_noted (replies_of (standing_after g q id J)) (reply_read id (read_in g (Proxy q) r.event)) ≡ noted =
    ap (λ (o : Option Standing). with_reply_noted (replies_of o) (reply_read id (read_in g (Proxy q) r.event))) e
    ∙ ap (with_reply_noted replies) b.read in
    let by = decision_is g.f noted chosen d in
    ap (λ (o : Option (List Record)). in_numbers (option_and_then (source_at_decision g q id) o)) moment
    ∙ ap (λ (l : List Reply). in_numbers
    (option_and_then (source_of_reply g q id (r ∷ J)) (option_map (λ (c : Chosen). c.reply) (decision g.f l)))) at_last
    ∙ ap (λ (o : Option Chosen). in_numbers (option_and_then (source_of_reply g q id (r ∷ J)) (option_map (λ (c : Chosen). c.reply) o))) d
    ∙ ap (λ (o : Option Answer). cond (is_some o) (in_numbers (source_of_reply g q id (r ∷ J) chosen.reply)) None) (sym answer)
    ∙ sym (place_among (source_noted g q id (r ∷ J)) noted chosen.reply by.among)

has_answer : (f : ℕ) (reply : Reply) → is_of_leader f reply ≡ true → answer_in reply ≡ None → ⊥
has_answer f (Fast replica view digest vector answer) leads none =
    let some = (and_parts (eqb replica (leader_of f view)) (is_some answer) leads).1 in
    let not : is_some answer ≡ false = ap is_some none in
    cc
has_answer f (Slow replica view) leads none = cc

settles : (g : Group) (q : ℕ) (id : Id) (r : Record) (J : List Record) (p : Parcel) (reply : Reply)
    (source : Option Source) (replies : List Reply) (d : Option Chosen) (o : Option Answer) → Brings g q id r J p reply source
    → standing_after g q id J ≡ Some (Open replies) → decision g.f (with_note replies reply) ≡ d → answer_chosen d ≡ o
    → standing_after g q id (r ∷ J) ≡ Some (settled_with (with_note replies reply) d o)
    → let now = notes_of g q id (r ∷ J) (with_note replies reply) in
    memory_of g q id (r ∷ J) (Some (settled_with (with_note replies reply) d o))
    ≡ Some (noted_if_decided now (option_map (λ (c : Chosen). source_among now.sources now.tally.replies c.reply) d))
settles g q id r J p reply source replies None None b e d answer after = refl
settles g q id r J p reply source replies None (Some a) b e d answer after = absurd (none-some a answer)
settles g q id r J p reply source replies (Some chosen) None b e d answer after =
    absurd (let by = decision_is g.f (with_note replies reply) chosen d in has_answer g.f chosen.reply by.leads answer)
settles g q id r J p reply source replies (Some chosen) (Some a) b e d answer after =
    ap (λ (s : Option Source). Some (noted.Decided s)) (decides_now g q id r J p reply source replies chosen a b e d answer after)

-- where the proxy is silent, a request that is open stays open
abbrev pub StaysOpen : Group → ℕ → Id → List Record → Reply → Bool → Type 0
StaysOpen g q id J reply silent =
    silent ≡ true → (replies : List Reply) → standing_after g q id J ≡ Some (Open replies)
    → settled g.f (with_note replies reply) ≡ Open (with_note replies reply)

settles_if_loud : (g : Group) (q : ℕ) (id : Id) (r : Record) (J : List Record) (p : Parcel) (reply : Reply)
    (source : Option Source) (silent : Bool) (replies : List Reply) → Brings g q id r J p reply source → StaysOpen g q id J reply silent
    → standing_after g q id J ≡ Some (Open replies) → standing_after g q id (r ∷ J) ≡ Some (settled g.f (with_note replies reply))
    → let now = notes_of g q id (r ∷ J) (with_note replies reply) in
    memory_of g q id (r ∷ J) (Some (settled g.f (with_note replies reply)))
    ≡ Some (cond silent (noted.Open now) (noted_if_decided now (decided_source now)))
settles_if_loud g q id r J p reply source true replies b still e after = ap (λ (s : Standing). memory_of g q id (r ∷ J) (Some s)) (still refl replies e)
settles_if_loud g q id r J p reply source false replies b still e after =
    settles g q id r J p reply source replies (decision g.f (with_note replies reply))
    (answer_chosen (decision g.f (with_note replies reply))) b e refl refl after

notes_at : (g : Group) (q : ℕ) (id : Id) (r : Record) (J : List Record) (p : Parcel) (reply : Reply)
    (source : Option Source) (silent : Bool) (o : Option Standing) → Brings g q id r J p reply source → StaysOpen g q id J reply silent
    → standing_after g q id J ≡ o → standing_after g q id (r ∷ J) ≡ standing_noted g.f reply o
    → memory_of g q id (r ∷ J) (standing_noted g.f reply o) ≡ option_map (noted_by silent reply source) (memory_of g q id J o)
notes_at g q id r J p reply source silent None b still e after = refl
notes_at g q id r J p reply source silent (Some (Decided a path)) b still e after = stays_at g q id r J (Some (Decided a path)) e after
notes_at g q id r J p reply source silent (Some (Open replies)) b still e after =
    settles_if_loud g q id r J p reply source silent replies b still e after
    ∙ ap (λ (n : Notes). Some (cond silent (noted.Open n) (noted_if_decided n (decided_source n)))) (sym (notes_then g q id r J p reply source replies b e))

pub memory_notes : (g : Group) (q : ℕ) (id : Id) (r : Record) (J : List Record) (p : Parcel) (reply : Reply) (source : Option Source)
    (silent : Bool) → Brings g q id r J p reply source → StaysOpen g q id J reply silent
    → standing_after g q id (r ∷ J) ≡ standing_noted g.f reply (standing_after g q id J)
    → memory g q id (r ∷ J) ≡ option_map (noted_by silent reply source) (memory g q id J)
memory_notes g q id r J p reply source silent b still after =
    ap (memory_of g q id (r ∷ J)) after ∙ notes_at g q id r J p reply source silent (standing_after g q id J) b still refl after
