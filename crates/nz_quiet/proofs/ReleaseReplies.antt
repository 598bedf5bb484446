-- A tick sends a fast reply for each entry that it releases, and no other.
use Rattle.std.proofs.Common.{◌≡◌, ℕ, suc, ◌+◌, ◌-◌, ◌≤◌, true, List, [], ◌∷◌, ◌++◌, length, Option, Some, None}
use Rattle.std.proofs.Common.{refl, sym, ap, subst, ◌∙◌, inl, inr, arith, length-append}
use Rattle.std.specs.Map.{lookup}
use Rattle.std.proofs.lemmas.Bool.{lt-ltb, cases_Bool, cond_both, and_from, and_parts}
use Rattle.nz_base.specs.declared.key.Id.{Id}
use Rattle.nz_base.specs.declared.key.Entry.{Entry}
use Rattle.nz_base.specs.Key.{id_eq, id_of}
use Rattle.nz_base.specs.Log.{keys_of, AreRising}
use Rattle.nz_base.specs.declared.limits.TheConstants.{MAX_ENTRIES}
use Rattle.nz_buffers.specs.Buffers.{is_due, released}
use Rattle.nz_buffers.proofs.Releasing.{none_due}
use Rattle.nz_machine.proofs.runs.Due.{entries_appended}
use Rattle.nz_machine.specs.declared.data.Origin.{Origin}
use Rattle.nz_machine.specs.rules.State.{ReplicaData, Out}
use Rattle.nz_machine.specs.rules.Replicas.{leads, fast_replies}
use Rattle.nz_machine.specs.rules.Releases.{after_release, log_has_room, may_release, release_replies, releases}
use Rattle.nz_machine.specs.runs.World.{Has}
use Rattle.nz_machine.proofs.runs.Runs.{has_left, has_right, has_split}
use Rattle.nz_quiet.specs.Replicas.{IsRepliedTo, IsReplyOf}

-- ---- no other

reply_for : (f me : ℕ) (s : ReplicaData) (e : Entry) (place : ℕ) (o : Option Origin) (x : Out) → Has (fast_replies f me s (id_of e.key) place o) x
    → (es : List Entry) (clock : ℕ) → Has es e → is_due clock e ≡ true → IsReplyOf es clock x
reply_for f me s e place None x h es clock among due = absurd h
reply_for f me s e place (Some origin) x (inr none) es clock among due = absurd none
reply_for f me s e place (Some origin) x (inl same) es clock among due =
    subst (IsReplyOf es clock) same (record { entry = e; among = among; due = due; body = _; is = refl; of_it = refl })

later_of : (e : Entry) (es : List Entry) (clock : ℕ) (x : Out) → IsReplyOf es clock x → IsReplyOf (e ∷ es) clock x
later_of e es clock x h = record { entry = h.entry; among = inr h.among; due = h.due; body = h.body; is = h.is; of_it = h.of_it }

pub only_released : (f me : ℕ) (s : ReplicaData) (es : List Entry) (x : Out) → Has (releases f me s es).1 x → IsReplyOf es s.clock x
unfolding releases
only_released f me s [] x h = absurd h
only_released f me s (e ∷ es) x h =
    let next = after_release f me s e es in
    let rest = releases f me next es in
    cond_both (may_release s e) (rest.0, release_replies f me next e ++ rest.1) (s, [])
    (λ (t : ReplicaData × List Out). Has t.1 x → IsReplyOf (e ∷ es) s.clock x)
    (λ may h. elim (has_split (release_replies f me next e) rest.1 x h) [
      | inl here ↦
          reply_for f me next e (length next.log.entries - 1) (lookup (id_eq (id_of e.key)) next.origin) x here (e ∷ es) s.clock (inl refl)
          (and_parts (is_due s.clock e) (log_has_room s) may).0
      | inr later ↦ later_of e es s.clock x (only_released f me next es x later)
    ])
    (λ _ h. absurd h) h

-- ---- each

due_kept : (clock : ℕ) (es : List Entry) (e : Entry) → Has es e → is_due clock e ≡ true → released es clock ≡ [] → ⊥
due_kept clock [] e h due none = absurd h
due_kept clock (x ∷ es) e h due none = elim (cases_Bool (is_due clock x)) [
  | inl here ↦ let some : x ∷ released es clock ≡ [] = rw here at none in absurd cc
  | inr away ↦
      let rest : released es clock ≡ [] = rw away at none in
      elim h [
        | inl same ↦ let yes : is_due clock x ≡ true = ap (is_due clock) same ∙ due in let no = away in absurd cc
        | inr later ↦ due_kept clock es e later due rest
      ]
]

replied_here : (f me : ℕ) (s : ReplicaData) (id : Id) (place : ℕ) (o : Option Origin) (origin : Origin) → o ≡ Some origin
    → IsRepliedTo (fast_replies f me s id place o) origin.proxy id
replied_here f me s id place o origin is =
    subst (λ (p : Option Origin). IsRepliedTo (fast_replies f me s id place p) origin.proxy id) (sym is)
    (record { body = _; among = inl refl; is = refl })

replied_left : (xs ys : List Out) (proxy : ℕ) (id : Id) → IsRepliedTo xs proxy id → IsRepliedTo (xs ++ ys) proxy id
replied_left xs ys proxy id h = record { body = h.body; among = has_left xs ys _ h.among; is = h.is }

replied_right : (xs ys : List Out) (proxy : ℕ) (id : Id) → IsRepliedTo ys proxy id → IsRepliedTo (xs ++ ys) proxy id
replied_right xs ys proxy id h = record { body = h.body; among = has_right xs ys _ h.among; is = h.is }

pub each_released : (f me : ℕ) (s : ReplicaData) (es : List Entry) (e : Entry) (origin : Origin) → AreRising (keys_of es)
    → length s.log.entries + length (released es s.clock) ≤ MAX_ENTRIES → Has es e → is_due s.clock e ≡ true
    → lookup (id_eq (id_of e.key)) s.origin ≡ Some origin → IsRepliedTo (releases f me s es).1 origin.proxy (id_of e.key)
unfolding releases
each_released f me s [] e origin rising few h due known = absurd h
each_released f me s (x ∷ es) e origin rising few h due known = elim (cases_Bool (is_due s.clock x)) [
  | inl here ↦
      let next = after_release f me s x es in
      let rest = releases f me next es in
      let count : length (released (x ∷ es) s.clock) ≡ suc (length (released es s.clock)) = rw here refl in
      let long : length next.log.entries ≡ length s.log.entries + 1 =
      ap length (entries_appended (leads f me s) s.log x) ∙ length-append s.log.entries (x ∷ []) in
      let may : may_release s x ≡ true = and_from _ _ here (lt-ltb _ _ (omega (arith, count, few))) in
      let own = release_replies f me next x in
      rw may (elim h [
        | inl same ↦
            replied_left own rest.1 origin.proxy (id_of e.key)
            (subst (λ (y : Entry). IsRepliedTo (release_replies f me (after_release f me s x es) y) origin.proxy (id_of e.key)) (sym same)
            (replied_here f me next (id_of e.key) (length next.log.entries - 1) (lookup (id_eq (id_of e.key)) next.origin) origin known))
        | inr later ↦
            replied_right own rest.1 origin.proxy (id_of e.key)
            (each_released f me next es e origin rising.1 (omega (arith, count, few, long)) later due known)
      ])
  | inr not_due ↦
      let none = none_due s.clock x es not_due rising.0 in
      absurd (elim h [
        | inl same ↦ let yes : is_due s.clock x ≡ true = ap (is_due s.clock) same ∙ due in let no = not_due in cc
        | inr later ↦ due_kept s.clock es e later due none.0
      ])
]
