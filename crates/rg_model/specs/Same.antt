-- Tests of sameness that compute: of replies, and of what a utility's events name.
use Rattle.std.specs.Prelude.{ℕ, ◌==◌, ◌&&◌, Bool, true, false, List, [], ◌∷◌}
use Rattle.std.specs.Str.{bytes_eq}
use Rattle.rg_base.specs.declared.options.DrainFor.{DrainFor}
use Rattle.rg_base.specs.declared.options.DrainFor.TheVariants as what
use Rattle.rg_base.specs.declared.row.Row.{Row}
use Rattle.rg_base.specs.declared.verdict.StopReason.{StopReason}
use Rattle.rg_base.specs.declared.verdict.StopReason.TheVariants as reasons
use Rattle.rg_base.specs.declared.verdict.Verdict.{Verdict}
use Rattle.rg_base.specs.declared.verdict.Verdict.TheVariants as verdicts
use Rattle.rg_base.specs.declared.which.Which.{Which}
use Rattle.rg_base.specs.declared.which.Which.TheVariants.{Key, Clus, Cat}
use Rattle.rg_stmt.specs.declared.stmt.Reply.{Reply}
use Rattle.rg_stmt.specs.declared.stmt.Reply.TheVariants.{Done, Found, Listed, Keyed, Absent}
use Rattle.rg_stmt.specs.declared.stmt.Reply.TheVariants.{Duplicate, Held, Victim, Drained, Full}
use Rattle.rg_stmt.specs.declared.stmt.Reply.TheVariants.{LogFull, Device, Down, NoMemory}

-- element for element
abbrev pub same_list : {X : Type 0} → (X → X → Bool) → List X → List X → Bool
same_list same [] [] = true
same_list same (x ∷ xs) (y ∷ ys) = same x y && same_list same xs ys
same_list same [] (y ∷ ys) = false
same_list same (x ∷ xs) [] = false

abbrev pub same_number : ℕ → ℕ → Bool
same_number a b = a == b

abbrev pub same_row : Row → Row → Bool
same_row a b = a.key == b.key && (a.clus == b.clus && (a.cat == b.cat && bytes_eq a.text b.text))

abbrev pub same_reply : Reply → Reply → Bool
same_reply Done Done = true
same_reply (Found a) (Found b) = same_row a b
same_reply (Listed a) (Listed b) = same_list same_row a b
same_reply (Keyed a) (Keyed b) = same_list same_number a b
same_reply Absent Absent = true
same_reply Duplicate Duplicate = true
same_reply (Held a) (Held b) = a.0 == b.0
same_reply (Victim a) (Victim b) = a.0 == b.0
same_reply Drained Drained = true
same_reply (Full a) (Full b) = a == b
same_reply (LogFull a b) (LogFull c d) = a == c && b == d
same_reply Device Device = true
same_reply Down Down = true
same_reply NoMemory NoMemory = true
same_reply a b = false

abbrev pub same_which : Which → Which → Bool
same_which Key Key = true
same_which Clus Clus = true
same_which Cat Cat = true
same_which a b = false

abbrev pub same_drain : DrainFor → DrainFor → Bool
same_drain what.Writers what.Writers = true
same_drain what.All what.All = true
same_drain a b = false

abbrev pub same_reason : StopReason → StopReason → Bool
same_reason reasons.Term reasons.Term = true
same_reason reasons.Deadline reasons.Deadline = true
same_reason reasons.Longlog reasons.Longlog = true
same_reason reasons.Drain reasons.Drain = true
same_reason reasons.NoSpace reasons.NoSpace = true
same_reason reasons.Device reasons.Device = true
same_reason reasons.NoMemory reasons.NoMemory = true
same_reason a b = false

abbrev pub same_verdict : Verdict → Verdict → Bool
same_verdict verdicts.More verdicts.More = true
same_verdict verdicts.Next verdicts.Next = true
same_verdict verdicts.Message verdicts.Message = true
same_verdict (verdicts.Drain a) (verdicts.Drain b) = same_drain a b
same_verdict (verdicts.Stop a) (verdicts.Stop b) = same_reason a b
same_verdict a b = false
