-- The table of lines: by their first word, where they may come and what follows.
use Rattle.std.specs.Prelude.{ℕ, if◌then◌else◌, List, [], ◌∷◌, Option, Some, None, codes}
use Rattle.std.specs.Str.{bytes_eq}
use Rattle.nz_base.specs.declared.limits.TheConstants.{MAX_F, MAX_PROXIES, MAX_CLIENTS, MAX_WINDOW, MAX_TICKS, MAX_COUNT, MAX_KEEP}
use Rattle.nz_script.specs.declared.line_forms.Place.{Place}
use Rattle.nz_script.specs.declared.line_forms.Place.TheVariants as place
use Rattle.nz_script.specs.declared.line_forms.Head.{Head}
use Rattle.nz_script.specs.declared.line_forms.Head.TheVariants as head
use Rattle.nz_script.specs.declared.line_forms.Ask.{Ask}
use Rattle.nz_script.specs.declared.line_forms.Ask.TheVariants.{Put, Get, Del, Cas}
use Rattle.nz_script.specs.declared.line_forms.Mishap.{Mishap}
use Rattle.nz_script.specs.declared.line_forms.Mishap.TheVariants as mishap
use Rattle.nz_script.specs.declared.line_forms.Verb.{Verb}
use Rattle.nz_script.specs.declared.line_forms.Verb.TheVariants as verb
use Rattle.nz_script.specs.declared.line_forms.Form.{Form}
use Rattle.nz_script.specs.declared.line_forms.Form.TheVariants as form

-- The places in the order of a text.
abbrev pub place_rank : Place → ℕ
place_rank place.Version = 0
place_rank place.Faulty = 1
place_rank place.Proxies = 2
place_rank place.Clients = 3
place_rank place.Ticks = 4
place_rank place.Window = 5
place_rank place.Between = 6
place_rank place.Block = 7
place_rank place.Mishaps = 8
place_rank place.Ended = 9

-- A tick, or a number of ticks.
abbrev pub tick : Form
tick = form.Number 1 MAX_TICKS

-- Which parcel of those that match.
abbrev pub count : Form
count = form.Number 1 MAX_COUNT

-- The first word of a line, where the line may come, and the forms of its other words.
pub record LineShape : Type 0 where
  pub word : List ℕ
  pub place : Place
  pub forms : List Form

-- A shape of these parts.
abbrev pub shape : List ℕ → Place → List Form → LineShape
shape word place forms = record { word = word; place = place; forms = forms }

-- The shapes of the lines of the head.
abbrev pub head_shape_of : Head → LineShape
head_shape_of head.Version = shape (codes "nezha") place.Version (form.Number 1 2 ∷ [])
head_shape_of head.Faulty = shape (codes "f") place.Faulty (form.Number 1 MAX_F ∷ [])
head_shape_of head.Proxies = shape (codes "proxies") place.Proxies (form.Number 1 MAX_PROXIES ∷ [])
head_shape_of head.Clients = shape (codes "clients") place.Clients (form.Number 1 MAX_CLIENTS ∷ [])
head_shape_of head.Ticks = shape (codes "ticks") place.Ticks (tick ∷ [])
head_shape_of head.Window = shape (codes "window") place.Window (form.Number 2 MAX_WINDOW ∷ [])

-- The shapes of the commands.
abbrev pub ask_shape_of : Ask → LineShape
ask_shape_of Put = shape (codes "put") place.Block (form.Key ∷ form.Value ∷ [])
ask_shape_of Get = shape (codes "get") place.Block (form.Key ∷ [])
ask_shape_of Del = shape (codes "del") place.Block (form.Key ∷ [])
ask_shape_of Cas = shape (codes "cas") place.Block (form.Key ∷ form.Choice ∷ form.Choice ∷ [])

-- The shapes of the faults.
abbrev pub mishap_shape_of : Mishap → LineShape
mishap_shape_of mishap.Drop = shape (codes "drop") place.Mishaps (form.Actor ∷ form.Actor ∷ form.Kind ∷ count ∷ [])
mishap_shape_of mishap.Hold = shape (codes "hold") place.Mishaps (form.Actor ∷ form.Actor ∷ form.Kind ∷ count ∷ tick ∷ [])
mishap_shape_of mishap.Twice = shape (codes "twice") place.Mishaps (form.Actor ∷ form.Actor ∷ form.Kind ∷ count ∷ form.Number 0 MAX_TICKS ∷ [])
mishap_shape_of mishap.Cut = shape (codes "cut") place.Mishaps (form.Actor ∷ form.Actor ∷ form.Kind ∷ count ∷ form.Number 0 MAX_KEEP ∷ [])
mishap_shape_of mishap.Block = shape (codes "block") place.Mishaps (form.Actors ∷ form.Actors ∷ tick ∷ tick ∷ [])
mishap_shape_of mishap.Crash = shape (codes "crash") place.Mishaps (form.Server ∷ tick ∷ [])
mishap_shape_of mishap.Restart = shape (codes "restart") place.Mishaps (form.Server ∷ tick ∷ [])
mishap_shape_of mishap.Alarm = shape (codes "alarm") place.Mishaps (form.Replica ∷ tick ∷ [])

-- The shape of each line.
abbrev pub shape_of : Verb → LineShape
shape_of (verb.Head h) = head_shape_of h
shape_of verb.Skew = shape (codes "skew") place.Between (form.Server ∷ form.Units ∷ [])
shape_of verb.Client = shape (codes "client") place.Between (form.Client ∷ [])
shape_of (verb.Ask a) = ask_shape_of a
shape_of verb.Wait = shape (codes "wait") place.Block (tick ∷ [])
shape_of verb.End = shape (codes "end") place.Block []
shape_of (verb.Mishap m) = mishap_shape_of m
shape_of verb.Done = shape (codes "done") place.Mishaps []

-- The first word of a line.
abbrev pub verb_word : Verb → List ℕ
verb_word v = (shape_of v).word

-- Where the line may come.
abbrev pub verb_place : Verb → Place
verb_place v = (shape_of v).place

-- The forms of its other words.
abbrev pub forms_of : Verb → List Form
forms_of v = (shape_of v).forms

-- All sorts of lines.
abbrev pub verbs : List Verb
verbs =
    verb.Head head.Version ∷ verb.Head head.Faulty ∷ verb.Head head.Proxies ∷ verb.Head head.Clients ∷ verb.Head head.Ticks ∷ verb.Head head.Window ∷
    verb.Skew ∷ verb.Client ∷ verb.Ask Put ∷ verb.Ask Get ∷ verb.Ask Del ∷ verb.Ask Cas ∷ verb.Wait ∷ verb.End ∷
    verb.Mishap mishap.Drop ∷ verb.Mishap mishap.Hold ∷ verb.Mishap mishap.Twice ∷ verb.Mishap mishap.Cut ∷ verb.Mishap mishap.Block ∷
    verb.Mishap mishap.Crash ∷ verb.Mishap mishap.Restart ∷ verb.Mishap mishap.Alarm ∷ verb.Done ∷ []

-- The sort of line with this first word, among some sorts.
abbrev pub verb_in : List Verb → List ℕ → Option Verb
verb_in [] word = None
verb_in (verb ∷ others) word = if bytes_eq (verb_word verb) word then Some verb else verb_in others word

-- The sort of the lines with this first word.
unfoldable pub verb_of : List ℕ → Option Verb
verb_of word = verb_in verbs word
