-- The stage after an entry.
use Rattle.std.specs.Prelude.{◌≡◌, Option, Some, None, IfSome}
use Rattle.rg_base.specs.declared.options.DrainState.{DrainState}
use Rattle.rg_base.specs.declared.options.DrainState.TheVariants.{Free}
use Rattle.rg_feed.specs.declared.fold.item.Stage.{Stage}
use Rattle.rg_model.specs.State.{Utility}
use Rattle.rg_model.specs.Turn.{Turn, Runs, Switches, Stops, Falls}
use Rattle.rg_rules.specs.Stage.NumbersOf.{numbers_of}

-- the utility has these numbers, under this drain
abbrev pub HasNumbers : Stage → Utility → DrainState → Type 0
HasNumbers s numbers drain = (numbers_of s ≡ numbers) × (s.drain ≡ drain)

-- The stage is the one that a turn leaves. After a switch no drain is in force; a utility that is
-- over has no stage.
abbrev pub Followed : Turn → Option Stage → Type 0
Followed (Runs numbers drain) (Some s) = HasNumbers s numbers drain
Followed (Switches copy sides numbers) (Some s) = HasNumbers s numbers Free
Followed Stops None = Unit {0}
Followed Falls None = Unit {0}
Followed turn stage = ⊥

-- an entry of the utility itself changes neither whether it runs nor its REORG lines
abbrev pub KeepsLines : Stage → Option Stage → Type 0
KeepsLines s next = IfSome next (λ t. (t.running ≡ s.running) × (t.lines ≡ s.lines))
