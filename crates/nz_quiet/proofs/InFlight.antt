-- What is in flight to an actor is what it hears, and the requests of it go to early.
use Rattle.std.proofs.Common.{◌≡◌, ◌⊎◌, Bool, true, cond, List, [], ◌∷◌, ◌++◌, refl, sym, ap, subst, ◌∙◌, inl, inr, is_some}
use Rattle.std.proofs.lemmas.Bool.{cases_Bool, or_cases}
use Rattle.nz_base.specs.Actor.{actor_eq}
use Rattle.nz_base.specs.declared.actor.Actor.{Actor}
use Rattle.nz_base.specs.declared.key.Id.{Id}
use Rattle.nz_base.specs.declared.key.Entry.{Entry}
use Rattle.nz_base.specs.Key.{key_below, id_eq, id_of}
use Rattle.nz_base.specs.Log.{keys_of, has_id}
use Rattle.nz_base.proofs.Names.{actor_eq_self, same_actor, same_id}
use Rattle.nz_log.proofs.Placing.{place_held}
use Rattle.nz_buffers.specs.Buffers.{insert_by_key}
use Rattle.nz_msg.specs.declared.message.TimedBody.{TimedBody}
use Rattle.nz_msg.specs.declared.message.Message.{Message}
use Rattle.nz_msg.specs.declared.message.Message.TheVariants as messages
use Rattle.nz_machine.specs.rules.State.{Out}
use Rattle.nz_machine.specs.rules.Requests.{entry_at}
use Rattle.nz_machine.specs.runs.World.{Has}
use Rattle.nz_machine.proofs.lists.LogPlaces.{has_place}
use Rattle.nz_machine.proofs.runs.Runs.{has_right, has_split}
use Rattle.nz_quiet.specs.Folds.{heard_by}
use Rattle.nz_quiet.specs.Replicas.{bodies_of, with_body, with_bodies}
use Rattle.nz_quiet.proofs.SameBodies.{body_in, bodies_more}

-- ---- what is heard

pub heard_has : (b : Actor) (xs : List (Actor × Out)) (a : Actor) (m : Message) → Has xs (a, (b, m)) → Has (heard_by b xs) (a, m)
heard_has b [] a m h = absurd h
heard_has b (x ∷ xs) a m (inl same) =
    let mine : actor_eq x.1.0 b ≡ true = ap (λ (y : Actor × Out). actor_eq y.1.0 b) same ∙ actor_eq_self b in
    rw mine (inl (ap (λ (y : Actor × Out). (y.0, y.1.1)) same))
heard_has b (x ∷ xs) a m (inr h) = elim (cases_Bool (actor_eq x.1.0 b)) [
  | inl mine ↦ rw mine (inr (heard_has b xs a m h))
  | inr other ↦ rw other (heard_has b xs a m h)
]

pub of_heard : (b : Actor) (xs : List (Actor × Out)) (a : Actor) (m : Message) → Has (heard_by b xs) (a, m) → Has xs (a, (b, m))
of_heard b [] a m h = absurd h
of_heard b (x ∷ xs) a m h = elim (cases_Bool (actor_eq x.1.0 b)) [
  | inl mine ↦
      elim (subst (λ (c : Bool). Has (cond c ((x.0, x.1.1) ∷ heard_by b xs) (heard_by b xs)) (a, m)) mine h) [
        | inl same ↦ inl (λ i. ((same i).0, (same_actor x.1.0 b mine i, (same i).1)))
        | inr later ↦ inr (of_heard b xs a m later)
      ]
  | inr other ↦ inr (of_heard b xs a m (subst (λ (c : Bool). Has (cond c ((x.0, x.1.1) ∷ heard_by b xs) (heard_by b xs)) (a, m)) other h))
]

pub body_has : (hs : List (Actor × Message)) (from : Actor) (b : TimedBody) → Has hs (from, messages.Timed b) → Has (bodies_of hs) b
body_has [] from b h = absurd h
body_has ((a, m) ∷ hs) from b (inl same) =
    let is : m ≡ messages.Timed b = ap (λ (y : Actor × Message). y.1) same in
    subst (λ (bs : List TimedBody). Has bs b) (sym (bodies_more a m hs ∙ ap (λ (k : Message). body_in k ++ bodies_of hs) is)) (inl refl)
body_has ((a, m) ∷ hs) from b (inr h) =
    subst (λ (bs : List TimedBody). Has bs b) (sym (bodies_more a m hs)) (has_right (body_in m) (bodies_of hs) b (body_has hs from b h))

is_body : (m : Message) (b : TimedBody) → Has (body_in m) b → m ≡ messages.Timed b
is_body (messages.Timed c) b (inl same) = ap messages.Timed same
is_body (messages.Timed c) b (inr none) = absurd none
is_body m b h = absurd h

pub body_from : (hs : List (Actor × Message)) (b : TimedBody) → Has (bodies_of hs) b → (from : Actor) × Has hs (from, messages.Timed b)
body_from [] b h = absurd h
body_from ((a, m) ∷ hs) b h = elim (has_split (body_in m) (bodies_of hs) b (subst (λ (bs : List TimedBody). Has bs b) (bodies_more a m hs) h)) [
  | inl here ↦ (a, inl (λ i. (a, is_body m b here i)))
  | inr later ↦ let t = body_from hs b later in (t.0, inr t.1)
]

-- ---- ids

pub holds_id : (es : List Entry) (e : Entry) → Has es e → has_id (keys_of es) (id_of e.key) ≡ true
holds_id es e among = let t = has_place es e among in sym (place_held es (id_of e.key)) ∙ ap is_some t.1

pub id_held : (es : List Entry) (i : Id) → has_id (keys_of es) i ≡ true → (e : Entry) × (Has es e × (id_of e.key ≡ i))
id_held [] i h = absurd cc
id_held (x ∷ es) i h = elim (or_cases (id_eq i (id_of x.key)) (has_id (keys_of es) i) h) [
  | inl here ↦ (x, (inl refl, sym (same_id i (id_of x.key) here)))
  | inr there ↦ let t = id_held es i there in (t.0, (inr t.1.0, t.1.1))
]

-- ---- early entries with requests

pub has_inserted : (es : List Entry) (x e : Entry) → Has es e → Has (insert_by_key es x) e
has_inserted [] x e h = absurd h
has_inserted (f ∷ fs) x e h = elim (cases_Bool (key_below x.key f.key)) [
  | inl lower ↦ rw lower (inr h)
  | inr not_lower ↦ rw not_lower (elim h [ inl same ↦ inl same | inr later ↦ inr (has_inserted fs x e later) ])
]

own_inserted : (es : List Entry) (x : Entry) → Has (insert_by_key es x) x
own_inserted [] x = inl refl
own_inserted (f ∷ fs) x = elim (cases_Bool (key_below x.key f.key)) [
  | inl lower ↦ rw lower (inl refl)
  | inr not_lower ↦ rw not_lower (inr (own_inserted fs x))
]

of_inserted : (es : List Entry) (x e : Entry) → Has (insert_by_key es x) e → (x ≡ e) ⊎ Has es e
of_inserted [] x e (inl same) = inl same
of_inserted [] x e (inr none) = absurd none
of_inserted (f ∷ fs) x e h = elim (cases_Bool (key_below x.key f.key)) [
  | inl lower ↦ subst (λ (c : Bool). Has (cond c (x ∷ f ∷ fs) (f ∷ insert_by_key fs x)) e) lower h
  | inr not_lower ↦
      elim (subst (λ (c : Bool). Has (cond c (x ∷ f ∷ fs) (f ∷ insert_by_key fs x)) e) not_lower h) [
        | inl first ↦ inr (inl first)
        | inr later ↦ elim (of_inserted fs x e later) [ inl own ↦ inl own | inr old ↦ inr (inr old) ]
      ]
]

pub kept_early : (es : List Entry) (bs : List TimedBody) (e : Entry) → Has es e → Has (with_bodies es bs) e
kept_early es [] e h = h
kept_early es (b ∷ bs) e h = kept_early (with_body es b) bs e (elim (cases_Bool (has_id (keys_of es) b.id)) [
  | inl held ↦ rw held h
  | inr new ↦ rw new (has_inserted es (entry_at b.deadline b) e h)
])

-- a request that was put in is there, with some deadline
pub in_early : (es : List Entry) (bs : List TimedBody) (b : TimedBody) → Has bs b → (e : Entry) × (Has (with_bodies es bs) e × (id_of e.key ≡ b.id))
in_early es [] b h = absurd h
in_early es (c ∷ bs) b (inr h) = in_early (with_body es c) bs b h
in_early es (c ∷ bs) b (inl same) = elim (cases_Bool (has_id (keys_of es) c.id)) [
  | inl held ↦
      let t = id_held es c.id held in
      (t.0, (kept_early (with_body es c) bs t.0 (rw held t.1.0), t.1.1 ∙ ap (λ (x : TimedBody). x.id) same))
  | inr new ↦ (
    entry_at c.deadline c,
    (
      kept_early (with_body es c) bs (entry_at c.deadline c) (rw new (own_inserted es (entry_at c.deadline c))),
      ap (λ (x : TimedBody). x.id) same,
    ),
  )
]

-- an entry was early before, or is a request that was put in
pub record IsPutIn (bs : List TimedBody) (e : Entry) : Type 0 where
  pub body : TimedBody
  pub among : Has bs body
  pub is : entry_at body.deadline body ≡ e

pub of_early : (es : List Entry) (bs : List TimedBody) (e : Entry) → Has (with_bodies es bs) e → Has es e ⊎ IsPutIn bs e
of_early es [] e h = inl h
of_early es (b ∷ bs) e h = elim (of_early (with_body es b) bs e h) [
  | inr put ↦ inr (record { body = put.body; among = inr put.among; is = put.is })
  | inl before ↦ elim (cases_Bool (has_id (keys_of es) b.id)) [
    | inl held ↦ inl (subst (λ (c : Bool). Has (cond c es (insert_by_key es (entry_at b.deadline b))) e) held before)
    | inr new ↦
        elim (of_inserted es (entry_at b.deadline b) e (subst (λ (c : Bool). Has (cond c es (insert_by_key es (entry_at b.deadline b))) e) new before)) [
          | inl own ↦ inr (record { body = b; among = inl refl; is = own })
          | inr old ↦ inl old
        ]
  ]
]
