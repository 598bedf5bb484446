-- Which commands there are, and the words that call them.
use Rattle.std.specs.Prelude.{◌≡◌, ℕ, ◌≤◌, ◌==◌, nat_le, Bool, not, ◌&&◌, List, [], ◌∷◌, take, drop, Option, Some, None, if◌then◌else◌, codes}
use Rattle.std.specs.Str.{bytes_eq}
use Rattle.nz_base.specs.Actor.{is_within}
use Rattle.nz_base.specs.declared.limits.TheConstants.{MAX_REQUESTS, MAX_WORKERS}
use Rattle.nz_store.specs.Reading.{is_key_text}
use Rattle.nz_script.specs.Bytes.{number_of}
use Rattle.nz_top.specs.declared.words.TheConstants.{LAST_REPLICA}
use Rattle.nz_top.specs.declared.reports.Report.{Report}
use Rattle.nz_top.specs.declared.reports.Report.TheVariants as reports
use Rattle.nz_top.specs.declared.words.Command.{Command}
use Rattle.nz_top.specs.declared.words.Command.TheVariants as commands
use Rattle.nz_top.specs.declared.words.Origin.{Origin}
use Rattle.nz_top.specs.declared.words.Origin.TheVariants as origins
use Rattle.nz_top.specs.declared.words.Play.{Play}
use Rattle.nz_top.specs.declared.words.Verb.{Verb}
use Rattle.nz_top.specs.declared.words.Verb.TheVariants as verbs

-- The table of words: what the first word of a call asks for.
abbrev pub verb_of_word : List ℕ → Option Verb
verb_of_word word =
    if bytes_eq word (codes "run") then Some (verbs.Show reports.Text)
    else (if bytes_eq word (codes "trace") then Some (verbs.Show reports.Trace)
    else (if bytes_eq word (codes "story") then Some (verbs.Show reports.Story)
    else (if bytes_eq word (codes "locks") then Some (verbs.Show reports.Locks)
    else (if bytes_eq word (codes "peek") then Some verbs.Peek
    else (if bytes_eq word (codes "pace") then Some verbs.Pace
    else (if bytes_eq word (codes "gen") then Some verbs.Gen
    else (if bytes_eq word (codes "scenario") then Some verbs.Scenario
    else (if bytes_eq word (codes "check") then Some verbs.Check
    else (if bytes_eq word (codes "help") then Some verbs.Help else None)))))))))

-- The number, where it is from 1 to this.
abbrev pub up_to : ℕ → Option ℕ → Option ℕ
up_to most None = None
up_to most (Some n) = if is_within 1 most n then Some n else None

-- How many workers a numeral asks for.
abbrev pub workers_in : List ℕ → Option ℕ
workers_in numeral = up_to MAX_WORKERS (number_of numeral)

-- The same of a word `--workers=N`.
abbrev pub workers_at : List ℕ → Option ℕ
workers_at word = if bytes_eq (take 10 word) (codes "--workers=") then workers_in (drop 10 word) else None

-- How many workers the words after the first one ask for: one, where there is no word.
abbrev pub workers_of_words : List (List ℕ) → Option ℕ
workers_of_words [] = Some 1
workers_of_words (option ∷ []) = workers_at option
workers_of_words (option ∷ numeral ∷ []) = if bytes_eq option (codes "--workers") then workers_in numeral else None
workers_of_words _ = None

-- The number of a replica, where the letter is that of replicas, and a cluster may have one with this number.
abbrev pub replica_numbered : ℕ → Option ℕ → Option ℕ
replica_numbered letter None = None
replica_numbered letter (Some n) = if (letter == 114) && nat_le n LAST_REPLICA then Some n else None

-- The replica that a word names: `r` and its number, 0 to 8.
abbrev pub replica_in : List ℕ → Option ℕ
replica_in [] = None
replica_in (letter ∷ digits) = replica_numbered letter (number_of digits)

-- The word is a key, and does not begin as an option does.
abbrev pub is_key_word : List ℕ → Bool
is_key_word word = is_key_text word && not (bytes_eq (take 1 word) (codes "-"))

-- How many requests a numeral asks for.
abbrev pub count_in : List ℕ → Option ℕ
count_in numeral = up_to MAX_REQUESTS (number_of numeral)

-- The scenario of the input is played, and this is reported.
abbrev pub show_command : Report → Option ℕ → Option Command
show_command report None = None
show_command report (Some workers) = Some (commands.Play (record { origin = origins.Input; workers = workers; report = report }))

-- The scenario of the input is played by one worker, and it is reported what is observed of the replica.
abbrev pub peek_command : Option ℕ → List ℕ → Option Command
peek_command None key = None
peek_command (Some replica) key = if is_key_word key then show_command (reports.Peek replica key) (Some 1) else None

-- The scenario that the seed draws, with this many requests, is played, and its summary is reported.
abbrev pub gen_command : Option ℕ → Option ℕ → Option Command
gen_command (Some seed) (Some count) =
    Some (commands.Play (record { origin = origins.Seed seed count; workers = 1; report = reports.Summary }))
gen_command _ _ = None

-- The scenario that the seed draws, with this many requests, is printed.
abbrev pub scenario_command : Option ℕ → Option ℕ → Option Command
scenario_command (Some seed) (Some count) = Some (commands.Scenario seed count)
scenario_command _ _ = None

-- The command of a first word and the words after it.
abbrev pub command_after : Option Verb → List (List ℕ) → Option Command
command_after None rest = None
command_after (Some (verbs.Show report)) rest = show_command report (workers_of_words rest)
command_after (Some verbs.Peek) (actor ∷ key ∷ []) = peek_command (replica_in actor) key
command_after (Some verbs.Peek) _ = None
command_after (Some verbs.Pace) [] = show_command reports.Pace (Some 1)
command_after (Some verbs.Pace) _ = None
command_after (Some verbs.Gen) (seed ∷ count ∷ []) = gen_command (number_of seed) (count_in count)
command_after (Some verbs.Gen) _ = None
command_after (Some verbs.Scenario) (seed ∷ count ∷ []) = scenario_command (number_of seed) (count_in count)
command_after (Some verbs.Scenario) _ = None
command_after (Some verbs.Check) [] = Some commands.Check
command_after (Some verbs.Check) _ = None
command_after (Some verbs.Help) [] = Some commands.Help
command_after (Some verbs.Help) _ = None

-- The command that the words call. The first word decides what the others may be.
abbrev pub command_of_words : List (List ℕ) → Option Command
command_of_words [] = None
command_of_words (word ∷ rest) = command_after (verb_of_word word) rest

-- What a command plays, if it plays something.
abbrev pub play_of : Option Command → Option Play
play_of (Some (commands.Play play)) = Some play
play_of _ = None

-- What the words have played.
abbrev pub play_of_words : List (List ℕ) → Option Play
play_of_words words = play_of (command_of_words words)

-- At least one request is drawn, and no more than a scenario has.
abbrev pub IsDrawable : Origin → Type 0
IsDrawable origins.Input = Unit {0}
IsDrawable (origins.Seed seed count) = (1 ≤ count) × (count ≤ MAX_REQUESTS)

-- Of a scenario that is drawn the summary is reported.
abbrev pub IsReportOf : Origin → Report → Type 0
IsReportOf origins.Input report = Unit {0}
IsReportOf (origins.Seed seed count) report = report ≡ reports.Summary

-- There are 1 to MAX_WORKERS workers, and a scenario that is drawn is not too large.
pub record IsInRange (play : Play) : Type 0 where
  pub some : 1 ≤ play.workers
  pub few : play.workers ≤ MAX_WORKERS
  pub drawable : IsDrawable play.origin
  pub report : IsReportOf play.origin play.report

-- What words can call.
abbrev pub IsCalled : Command → Type 0
IsCalled (commands.Play play) = IsInRange play
IsCalled (commands.Scenario seed count) = IsDrawable (origins.Seed seed count)
IsCalled commands.Check = Unit {0}
IsCalled commands.Help = Unit {0}

-- A text is judged.
abbrev pub IsCheck : Option Command → Type 0
IsCheck (Some commands.Check) = Unit {0}
IsCheck _ = ⊥

-- One worker plays it.
abbrev pub IsAlone : Option Play → Type 0
IsAlone None = ⊥
IsAlone (Some play) = play.workers ≡ 1
