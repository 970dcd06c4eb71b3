use Rattle.std.proofs.Common.{◌≡◌, ℕ, true, sym, ◌∙◌, subst}
use Rattle.std.proofs.lemmas.Bool.{ne_eqb}
use Rattle.rg_index.specs.Entries.{has_entry}
use Rattle.rg_index.specs.RisingPart.{IsRising-rising_part}
use Rattle.rg_btree.proofs.IndexesLemmas.From.{IsElse, found_there, found_none}
use Rattle.rg_btree.proofs.indexes.indexes.Indexes.home_of.Goals as goal
use Rattle.rg_btree.specs.Indexes.Listings.{entries_of}

pub returns-then-found-key-clause-there : goal.returns-then-found-key-clause-there
returns-then-found-key-clause-there c =
    let es = entries_of c.args.self.now.keys in
    subst (λ (k : ℕ). has_entry es (k, c.in-Some.home) ≡ true) c.if-found-key.true
    (found_there c.args.key es (c.in-Some.found, c.in-Some.home)
    (sym c.in-Some.is ∙ c.keys_from.ensures))

pub returns-else-found-key-clause-none : goal.returns-else-found-key-clause-none
returns-else-found-key-clause-none c =
    let es = entries_of c.args.self.now.keys in
    found_none c.args.key es (IsRising-rising_part c.args.self.now.keys.entries)
    (subst (IsElse c.args.key) (sym c.in-Some.is ∙ c.keys_from.ensures)
    (ne_eqb c.in-Some.found c.args.key c.if-found-key.false))

pub returns-in-None-clause-none : goal.returns-in-None-clause-none
returns-in-None-clause-none c =
    let es = entries_of c.args.self.now.keys in
    found_none c.args.key es (IsRising-rising_part c.args.self.now.keys.entries)
    (subst (IsElse c.args.key) (sym c.in-None.is ∙ c.keys_from.ensures) tt)
