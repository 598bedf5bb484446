-- The marks of the kinds that fault lines may strike.
use Rattle.std.proofs.Common.{◌≡◌, ◌∙◌, ℕ, ◌+◌, ◌<◌, Bool, false, ◌||◌, List, length, take, get_or, sym, ap}
use Rattle.std.proofs.lemmas.List.Folds.{list_any_more}
use Rattle.nz_base.specs.declared.scenario.Fault.{Fault}
use Rattle.nz_fabric.specs.schedule.Calendars.{is_watched, may_strike_kind, AreMarked}

-- with one line more
pub one_marked : (lines : List Fault) (i : ℕ) (line : Fault) (before after : List Bool) → i < length lines → line ≡ get_or lines i line
    → AreMarked (take i lines) before
    → ((kind : ℕ) → kind < 256 → get_or after kind false ≡ (get_or before kind false || may_strike_kind kind line))
    → AreMarked (take (i + 1) lines) after
one_marked lines i line before after lt at so_far step = λ kind few.
    step kind few
    ∙ ap (λ (b : Bool). b || may_strike_kind kind line) (so_far kind few)
    ∙ ap (λ (x : Fault). is_watched (take i lines) kind || may_strike_kind kind x) at
    ∙ sym (list_any_more (may_strike_kind kind) lines i line lt)
