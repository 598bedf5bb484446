-- The new requests of a client: they are opened with a number each, and sent.
use Rattle.std.proofs.Common.{◌≡◌, ℕ, zero, suc, ◌+◌, ◌-◌, ◌%◌, ◌≤◌, List, [], ◌∷◌, ◌++◌, length, Option, Some, None}
use Rattle.std.proofs.Common.{refl, sym, ap, subst, ◌∙◌, inl, inr, arith, append_assoc}
use Rattle.std.specs.Prelude.{slice_get}
use Rattle.std.proofs.lemmas.Bool.{cases_lt}
use Rattle.std.proofs.lemmas.List.{append-nil}
use Rattle.nz_base.specs.declared.actor.Actor.TheVariants.{Proxy}
use Rattle.nz_base.specs.declared.scenario.Request.{Request}
use Rattle.nz_msg.specs.declared.message.Message.TheVariants as messages
use Rattle.nz_machine.specs.declared.data.Attempt.{Attempt}
use Rattle.nz_machine.specs.rules.State.{ClientData, Group, Out}
use Rattle.nz_machine.specs.rules.Clients.{ask, if_due, after_opening, open_next, fill_places, fill_window}
use Rattle.nz_machine.specs.declared.client_event.ClientEvent.{ClientEvent}
use Rattle.nz_machine.specs.runs.Events.{script_command, command_of_request}
use Rattle.nz_machine.specs.rules.Step.{script_of}
use Rattle.nz_machine.specs.runs.World.{Has}
use Rattle.nz_machine.proofs.runs.Runs.{has_left, has_right}
use Rattle.nz_machine.proofs.lists.EachItem.{all_append, all_imply}
use Rattle.nz_machine.proofs.journals.InTurn.{if_due_is, due_within}
use Rattle.nz_quiet.specs.Words.{Word}
use Rattle.nz_quiet.specs.ClientTicks.{one_older, new_attempt, asking, IsOpenAfter, OpenBefore, OpenNow, IsNewRequest, Asks, IsClientAfter}

module _ (g : Group) (c : ℕ) (s : ClientData) where
  -- more was sent
  pub open_more : (ws : List Word) (t u : ClientData) (outs more : List Out) (a : Attempt) → t.sent ≤ u.sent → IsOpenAfter g c s ws t outs a
      → IsOpenAfter g c s ws u (outs ++ more) a
  open_more ws t u outs more _ le (OpenBefore a has open_still) = OpenBefore a has open_still
  open_more ws t u outs more _ le (OpenNow num above most sent) = OpenNow num above (omega (arith, le, most)) (has_left outs more (asking g c num) sent)

  new_more : (t u : ClientData) (o : Out) → t.sent ≤ u.sent → ((a : Attempt) → Has t.attempts a → Has u.attempts a) → IsNewRequest g c s t o
      → IsNewRequest g c s u o
  new_more t u _ le kept (Asks num above most has) = Asks num above (omega (arith, le, most)) (kept (new_attempt g c num) has)

  -- what is asked is the request of the script
  asked_is : (sent : ℕ) (request : Request) → slice_get (script_of g c) sent ≡ Some request → ask (c % g.proxies) (sent + 1) request ≡ asking g c (sent + 1)
  asked_is sent request is =
      let place : sent ≡ (sent + 1) - 1 = omega arith in
      let at : Some request ≡ slice_get (script_of g c) ((sent + 1) - 1) = sym is ∙ ap (slice_get (script_of g c)) place in
      let command : request.command ≡ script_command (script_of g c) (sent + 1) = ap command_of_request at in
      let asks : List ℕ → Out = λ bytes. (Proxy (c % g.proxies), messages.Request (record { num = sent + 1; command = bytes })) in
      ap asks command

  opened : (ws : List Word) (t : ClientData) (outs : List Out) (seen : List ClientEvent) (o : Option Request)
      → if_due t.ticks (slice_get (script_of g c) t.sent) ≡ o → IsClientAfter g c s ws t outs seen
      → IsClientAfter g c s ws (after_opening g.proxies c t o).0 (outs ++ (after_opening g.proxies c t o).1) seen
  opened ws t outs seen None due h = subst (λ (os : List Out). IsClientAfter g c s ws t os seen) (sym (append-nil outs)) h
  opened ws t outs seen (Some request) due h =
      let num = t.sent + 1 in
      let new = new_attempt g c num in
      let v = (after_opening g.proxies c t (Some request)).0 in
      let sent = ask (c % g.proxies) num request ∷ [] in
      let is = asked_is t.sent request (if_due_is t.ticks (slice_get (script_of g c) t.sent) request due) in
      let within = due_within t.ticks (script_of g c) t.sent request due in
      let more = h.more in
      let last : Has (t.attempts ++ new ∷ []) new = has_right t.attempts (new ∷ []) new (inl refl) in
      let among : Has (outs ++ sent) (asking g c num) = has_right outs sent (asking g c num) (inl is) in
      record {
        ticks = h.ticks;
        more = omega (arith, more);
        few = omega (arith, within);
        open_after = all_append (IsOpenAfter g c s ws v (outs ++ sent)) t.attempts (new ∷ [])
            (all_imply (IsOpenAfter g c s ws t outs) (IsOpenAfter g c s ws v (outs ++ sent)) (λ a k. open_more ws t v outs sent a (omega arith) k)
            t.attempts h.open_after)
            (OpenNow num (omega (arith, more)) (omega arith) among, tt);
        each = λ a has. elim (h.each a has) [ inl still ↦ inl (has_left t.attempts (new ∷ []) (one_older a) still) | inr gone ↦ inr gone ];
        new = λ k above most. elim (cases_lt t.sent k) [
          | inl later ↦
              let same : num ≡ k = omega (arith, later, most) in
              subst (λ (n : ℕ). Has (t.attempts ++ new ∷ []) (new_attempt g c n)) same last
          | inr before ↦ has_left t.attempts (new ∷ []) (new_attempt g c k) (h.new k above before)
        ];
        sends = all_append (IsNewRequest g c s v) outs sent
            (all_imply (IsNewRequest g c s t) (IsNewRequest g c s v)
            (λ x k. new_more t v x (omega arith) (λ a has. has_left t.attempts (new ∷ []) a has) k) outs h.sends)
            (subst (IsNewRequest g c s v) (sym is) (Asks num (omega (arith, more)) (omega arith) last), tt);
        sent = λ id command has. let k = h.sent id command has in let most = k.2 in (k.0, k.1, omega (arith, most));
      }

  places : (free : ℕ) (ws : List Word) (t : ClientData) (outs : List Out) (seen : List ClientEvent) → IsClientAfter g c s ws t outs seen
      → IsClientAfter g c s ws (fill_places free g.proxies c (script_of g c) t).0 (outs ++ (fill_places free g.proxies c (script_of g c) t).1) seen
  places zero ws t outs seen h = subst (λ (os : List Out). IsClientAfter g c s ws t os seen) (sym (append-nil outs)) h
  places (suc free) ws t outs seen h =
      let v = open_next g.proxies c (script_of g c) t in
      let u = fill_places free g.proxies c (script_of g c) v.0 in
      let now = opened ws t outs seen (if_due t.ticks (slice_get (script_of g c) t.sent)) refl h in
      subst (λ (os : List Out). IsClientAfter g c s ws u.0 os seen) (append_assoc outs v.1 u.1) (places free ws v.0 (outs ++ v.1) seen now)

  pub window_opens : (ws : List Word) (t : ClientData) (outs : List Out) (seen : List ClientEvent) → IsClientAfter g c s ws t outs seen
      → let v = fill_window g.window g.proxies c (script_of g c) t in IsClientAfter g c s ws v.0 (outs ++ v.1) seen
  window_opens ws t outs seen h = places (g.window - length t.attempts) ws t outs seen h

-- nothing is accepted by it
places_accept : (free proxies me : ℕ) (script : List Request) (t : ClientData) → (fill_places free proxies me script t).0.accepted ≡ t.accepted
places_accept zero proxies me script t = refl
places_accept (suc free) proxies me script t =
    places_accept free proxies me script (open_next proxies me script t).0 ∙ one (if_due t.ticks (slice_get script t.sent))
  where
    one : (o : Option Request) → (after_opening proxies me t o).0.accepted ≡ t.accepted
    one None = refl
    one (Some request) = refl

pub window_accepts : (window proxies me : ℕ) (script : List Request) (t : ClientData) → (fill_window window proxies me script t).0.accepted ≡ t.accepted
window_accepts window proxies me script t = places_accept (window - length t.attempts) proxies me script t

-- nor is any request taken back
places_send : (free proxies me : ℕ) (script : List Request) (t : ClientData) → t.sent ≤ (fill_places free proxies me script t).0.sent
places_send zero proxies me script t = omega arith
places_send (suc free) proxies me script t =
    let v = (open_next proxies me script t).0 in
    let first = one (if_due t.ticks (slice_get script t.sent)) in
    let rest = places_send free proxies me script v in
    omega (arith, first, rest)
  where
    one : (o : Option Request) → t.sent ≤ (after_opening proxies me t o).0.sent
    one None = omega arith
    one (Some request) = omega arith

pub window_sends : (window proxies me : ℕ) (script : List Request) (t : ClientData) → t.sent ≤ (fill_window window proxies me script t).0.sent
window_sends window proxies me script t = places_send (window - length t.attempts) proxies me script t
