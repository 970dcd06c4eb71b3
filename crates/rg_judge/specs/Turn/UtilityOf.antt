-- What the numbers of a running utility stand for.
use Rattle.rg_model.specs.State.{Utility}
use Rattle.rg_judge.specs.declared.turn.progress.Progress.{Progress}

-- the numbers of a utility
abbrev pub utility_of : Progress → Utility
utility_of u = record {
  options = u.options;
  pages = u.pages;
  copied = u.copied;
  unloaded = u.unloaded;
  reloaded = u.reloaded;
  filled = u.filled;
  sorted = u.sorted;
  built = u.built;
  iteration = u.iteration;
  target = u.target;
  done = u.done;
  size = u.size;
  asked = u.asked;
  gave_up = u.gave_up;
  message = u.message;
  failed = u.failed;
  shadow = u.shadow;
  last = u.last;
  written = u.written;
  switched = u.switched;
}
