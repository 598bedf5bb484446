-- Fault lines that ask something of an actor.
use Rattle.std.proofs.Common.{◌≡◌, ℕ, ◌+◌, ◌<◌, ◌≤◌, List, [], ◌∷◌, ◌++◌, take, get_or, length, sym, ap, ◌∙◌, arith, append_assoc}
use Rattle.std.proofs.lemmas.List.{take_more}
use Rattle.nz_base.specs.declared.scenario.Fault.{Fault}
use Rattle.nz_base.specs.declared.scenario.Fault.TheVariants as faults
use Rattle.nz_machine.specs.declared.journal.Item.{Item}
use Rattle.nz_machine.specs.runs.Schedule.{calls, if_in, item}
use Rattle.nz_machine.specs.declared.event.Event.TheVariants.{Crash, Restart, Alarm}
use Rattle.nz_fabric.specs.schedule.Dues.{restarts_in}

pub restarts_push : (lines : List Fault) (line : Fault) → restarts_in (lines ++ line ∷ []) ≡ restarts_in lines + restarts_in (line ∷ [])
restarts_push [] line = omega arith
restarts_push (faults.Drop from to kind count ∷ lines) line = restarts_push lines line
restarts_push (faults.Hold from to kind count by ∷ lines) line = restarts_push lines line
restarts_push (faults.Twice from to kind count by ∷ lines) line = restarts_push lines line
restarts_push (faults.Cut from to kind count keep ∷ lines) line = restarts_push lines line
restarts_push (faults.Block from to first last ∷ lines) line = restarts_push lines line
restarts_push (faults.Crash a t ∷ lines) line = restarts_push lines line
restarts_push (faults.Restart a t ∷ lines) line = let ih = restarts_push lines line in omega (arith, ih)
restarts_push (faults.Alarm a t ∷ lines) line = restarts_push lines line

pushed_after : (own : List Item) (tick n : ℕ) (lines : List Fault) (line : Fault)
    → calls tick n (lines ++ line ∷ []) ≡ calls tick n lines ++ calls tick (n + restarts_in lines) (line ∷ [])
    → own ++ calls tick n (lines ++ line ∷ []) ≡ (own ++ calls tick n lines) ++ calls tick (n + restarts_in lines) (line ∷ [])
pushed_after own tick n lines line ih =
    ap (λ (is : List Item). own ++ is) ih ∙ sym (append_assoc own (calls tick n lines) (calls tick (n + restarts_in lines) (line ∷ [])))

pub calls_push : (tick n : ℕ) (lines : List Fault) (line : Fault)
    → calls tick n (lines ++ line ∷ []) ≡ calls tick n lines ++ calls tick (n + restarts_in lines) (line ∷ [])
calls_push tick n [] line = ap (λ m. calls tick m (line ∷ [])) (omega arith)
calls_push tick n (faults.Drop from to kind count ∷ lines) line = calls_push tick n lines line
calls_push tick n (faults.Hold from to kind count by ∷ lines) line = calls_push tick n lines line
calls_push tick n (faults.Twice from to kind count by ∷ lines) line = calls_push tick n lines line
calls_push tick n (faults.Cut from to kind count keep ∷ lines) line = calls_push tick n lines line
calls_push tick n (faults.Block from to first last ∷ lines) line = calls_push tick n lines line
calls_push tick n (faults.Crash a t ∷ lines) line = pushed_after (if_in tick t (item a Crash)) tick n lines line (calls_push tick n lines line)
calls_push tick n (faults.Restart a t ∷ lines) line =
    pushed_after (if_in tick t (item a (Restart (n + 1)))) tick (n + 1) lines line (calls_push tick (n + 1) lines line)
    ∙ ap (λ m. (if_in tick t (item a (Restart (n + 1))) ++ calls tick (n + 1) lines) ++ calls tick m (line ∷ [])) (omega arith)
calls_push tick n (faults.Alarm a t ∷ lines) line = pushed_after (if_in tick t (item a Alarm)) tick n lines line (calls_push tick n lines line)

-- one line more
pub restarts_more : (lines : List Fault) (i : ℕ) (d : Fault) → i < length lines
    → restarts_in (take (i + 1) lines) ≡ restarts_in (take i lines) + restarts_in (get_or lines i d ∷ [])
restarts_more lines i d lt = ap restarts_in (take_more lines i d lt) ∙ restarts_push (take i lines) (get_or lines i d)

pub calls_more : (tick : ℕ) (lines : List Fault) (i : ℕ) (d : Fault) → i < length lines
    → calls tick 0 (take (i + 1) lines) ≡ calls tick 0 (take i lines) ++ calls tick (restarts_in (take i lines)) (get_or lines i d ∷ [])
calls_more tick lines i d lt =
    ap (calls tick 0) (take_more lines i d lt) ∙ calls_push tick 0 (take i lines) (get_or lines i d)
    ∙ ap (λ n. calls tick 0 (take i lines) ++ calls tick n (get_or lines i d ∷ [])) (omega arith)

at_most_one : (line : Fault) → restarts_in (line ∷ []) ≤ 1
at_most_one (faults.Drop from to kind count) = omega arith
at_most_one (faults.Hold from to kind count by) = omega arith
at_most_one (faults.Twice from to kind count by) = omega arith
at_most_one (faults.Cut from to kind count keep) = omega arith
at_most_one (faults.Block from to first last) = omega arith
at_most_one (faults.Crash a t) = omega arith
at_most_one (faults.Restart a t) = omega arith
at_most_one (faults.Alarm a t) = omega arith

pub restarts_step : (lines : List Fault) (i : ℕ) (line d : Fault) (now next : ℕ) → i < length lines
    → line ≡ get_or lines i d → now ≡ restarts_in (take i lines) → next ≡ now + restarts_in (line ∷ []) → next ≡ restarts_in (take (i + 1) lines)
restarts_step lines i line d now next lt at so_far e =
    e ∙ ap (λ n. n + restarts_in (line ∷ [])) so_far
    ∙ ap (λ (x : Fault). restarts_in (take i lines) + restarts_in (x ∷ [])) at ∙ sym (restarts_more lines i d lt)

pub calls_step : (tick : ℕ) (lines : List Fault) (i : ℕ) (line d : Fault) (restarts : ℕ) (now next : List Item)
    → i < length lines → line ≡ get_or lines i d → restarts ≡ restarts_in (take i lines)
    → now ≡ calls tick 0 (take i lines) → next ≡ now ++ calls tick restarts (line ∷ []) → next ≡ calls tick 0 (take (i + 1) lines)
calls_step tick lines i line d restarts now next lt at count so_far e =
    e ∙ ap (λ (is : List Item). is ++ calls tick restarts (line ∷ [])) so_far
    ∙ ap (λ n. calls tick 0 (take i lines) ++ calls tick n (line ∷ [])) count
    ∙ ap (λ (x : Fault). calls tick 0 (take i lines) ++ calls tick (restarts_in (take i lines)) (x ∷ [])) at ∙ sym (calls_more tick lines i d lt)

pub few_step : (i : ℕ) (line : Fault) (now next : ℕ) → now ≤ i → next ≡ now + restarts_in (line ∷ []) → next ≤ i + 1
few_step i line now next few e = let one = at_most_one line in omega (arith, few, e, one)
