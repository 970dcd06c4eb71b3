-- The words in which the worked traces are written.
use Rattle.std.proofs.Common.{◌≡◌, ℕ, [], ◌∷◌, Some, None, false, sym, ◌∙◌}
use Rattle.std.specs.Ordering.{nat_cmp}
use Rattle.std.specs.FinMap as map
use Rattle.std.proofs.lemmas.List.{nil_from_length}
use Rattle.rg_base.specs.declared.control.Answer.{Answer}
use Rattle.rg_base.specs.declared.control.Command.{Command}
use Rattle.rg_base.specs.declared.control.Command.TheVariants.{Nothing}
use Rattle.rg_base.specs.declared.control.Deadline.TheVariants.{Never}
use Rattle.rg_base.specs.declared.control.Longlog.TheVariants.{Continue}
use Rattle.rg_base.specs.declared.control.Maxro.TheVariants.{Within}
use Rattle.rg_base.specs.declared.options.DrainFor.TheVariants.{Writers}
use Rattle.rg_base.specs.declared.options.DrainState.{DrainState}
use Rattle.rg_base.specs.declared.options.Options.{Options}
use Rattle.rg_base.specs.declared.row.Row.{Row}
use Rattle.rg_base.specs.declared.session.Session as numbers
use Rattle.rg_stmt.specs.declared.event.Actor.TheVariants.{Session, Utility}
use Rattle.rg_stmt.specs.declared.event.Entry.{Entry}
use Rattle.rg_stmt.specs.declared.event.Event.{Event}
use Rattle.rg_stmt.specs.declared.event.Event.TheVariants as events
use Rattle.rg_stmt.specs.declared.stmt.Reply.{Reply}
use Rattle.rg_stmt.specs.declared.stmt.Stmt.{Stmt}
use Rattle.rg_model.specs.State as model
use Rattle.rg_model.specs.State.{State}

-- the control statement without options
abbrev pub defaults : Options
defaults = record {
  maxro = Within 300;
  longlog = Continue;
  delay = 1200;
  deadline = Never;
  drain = Writers;
  wait = 30;
  retry = 3;
  pause = 30;
  pctfree = 5;
  freepage = 0;
}

abbrev pub session : ℕ → numbers.Session
session number = record { 0 = number }

-- the row of a key, with a text of one letter
abbrev pub row : (key clus cat letter : ℕ) → Row
row key clus cat letter = record { key = key; clus = clus; cat = cat; text = letter ∷ [] }

-- an answer of the operator, and one without a command
abbrev pub answer : (now estimate : ℕ) → Command → Answer
answer now estimate command = record { now = now; estimate = estimate; command = command }

abbrev pub at : ℕ → Answer
at now = answer now 0 Nothing

-- a step of the utility, with the operator's answer before it
abbrev pub step : Answer → Event → Entry
step given event = record { actor = Utility; event = event; answer = Some given; calls = 0 }

-- a line of the utility that asks nobody
abbrev pub line : Event → Entry
line event = record { actor = Utility; event = event; answer = None; calls = 0 }

abbrev pub said : ℕ → Stmt → Reply → Entry
said number stmt reply =
    record {
      actor = Session (session number);
      event = events.Said stmt reply;
      answer = None;
      calls = 0;
    }

-- a state of copy 1 in which a utility runs
abbrev pub beside : model.Table → model.Locks → model.Claims → DrainState → model.Utility → State
beside table locks claims drain utility = record {
  table = table;
  locks = locks;
  claims = claims;
  drain = drain;
  utility = Some utility;
  copy = 1;
  down = false;
  doubt = None;
  copydoubt = false;
}

-- an empty map has no entries
pub entries-empty : (X : Type 0) → map.entries (map.empty {K = ℕ} {X = X} {R = nat_cmp}) ≡ []
entries-empty X = nil_from_length _ (sym (map.len-entries map.empty) ∙ map.len-empty nat_cmp X)

pub len-empty : (X : Type 0) → map.len (map.empty {K = ℕ} {X = X} {R = nat_cmp}) ≡ 0
len-empty X = map.len-empty nat_cmp X
