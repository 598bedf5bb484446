-- The source of a noted reply, looked up by its place.
use Rattle.std.proofs.Common.{◌≡◌, ℕ, ◌<◌, Bool, true, cond, List, [], ◌∷◌, map, length, get_or, Option, Some, None, sym, ap, ◌∙◌, inl, inr, arith, lt-ltb}
use Rattle.std.proofs.lemmas.Bool.{cases_Bool}
use Rattle.std.specs.List.{position, position_or_len}
use Rattle.std.specs.Option.{option_map, option_flatten}
use Rattle.std.proofs.lemmas.List.Quantifiers.{position-Some}
use Rattle.std.proofs.lemmas.Option.{slice_get-map, slice_get-get_or}
use Rattle.nz_machine.specs.declared.reply.Reply.{Reply}
use Rattle.nz_machine.specs.rules.Quorums.{reply_eq}
use Rattle.nz_machine.specs.runs.World.{Has}
use Rattle.nz_machine.proofs.runs.Sources.{reply_eq_self, same_reply}
use Rattle.nz_audit.specs.declared.accepted.answers.Source.{Source}
use Rattle.nz_audit.specs.Noting.{source_at, source_among}

is_within : {X : Type 0} (p : X → Bool) (xs : List X) (x : X) → Has xs x → p x ≡ true → position_or_len p xs < length xs
is_within p [] x h t = absurd h
is_within p (y ∷ xs) x (inl e) t = let here : p y ≡ true = ap p e ∙ t in rw here (omega arith)
is_within p (y ∷ xs) x (inr h) t =
    elim (cases_Bool (p y)) [ inl here ↦ rw here (omega arith) | inr away ↦ rw away (let k = is_within p xs x h t in omega (arith, k)) ]

has_place : {X : Type 0} (p : X → Bool) (xs : List X) (x : X) → Has xs x → p x ≡ true → (i : ℕ) × (position p xs ≡ Some i)
has_place p xs x h t =
    (position_or_len p xs, ap (λ b. cond b (Some (position_or_len p xs)) None) (lt-ltb (position_or_len p xs) (length xs) (is_within p xs x h t)))

pub place_among : (f : Reply → Option Source) (replies : List Reply) (reply : Reply) → Has replies reply → source_among (map f replies) replies reply ≡ f reply
place_among f replies reply h =
    let k = has_place (reply_eq reply) replies reply h (reply_eq_self reply) in
    let at = position-Some (reply_eq reply) replies k.0 reply k.1 in
    let same = same_reply reply (get_or replies k.0 reply) at.1 in
    ap (source_at (map f replies)) k.1
    ∙ ap option_flatten (slice_get-map f replies k.0 ∙ ap (option_map f) (slice_get-get_or replies k.0 reply at.0))
    ∙ ap f (sym same)
