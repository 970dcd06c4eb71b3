-- The numbers of a running utility, of those that the engine keeps.
use Rattle.rg_feed.specs.declared.fold.item.Stage.{Stage}
use Rattle.rg_model.specs.State.{Utility}

-- all but the drain, whether the utility runs, and its REORG lines
abbrev pub numbers_of : Stage → Utility
numbers_of s = record {
  options = s.options;
  pages = s.pages;
  copied = s.copied;
  unloaded = s.unloaded;
  reloaded = s.reloaded;
  filled = s.filled;
  sorted = s.sorted;
  built = s.built;
  iteration = s.iteration;
  target = s.target;
  done = s.done;
  size = s.size;
  asked = s.asked;
  gave_up = s.gave_up;
  message = s.message;
  failed = s.failed;
  shadow = s.shadow;
  last = s.last;
  written = s.written;
  switched = s.switched;
}
