use Rattle.std.proofs.Common.{◌≡◌, ◌≤◌, ◌++◌, length, map, vec_capacity}
use Rattle.rg_bulk.specs.Branch.{first_of}
use Rattle.rg_bulk.proofs.build.gather.Given as goal

-- those taken so far are the children, with their first entries as keys
abbrev pub invariant-loop-kid : goal.invariant-loop-kid
invariant-loop-kid l = record {
  all : l.fn.level.items ≡ l.kids.items ++ l.level.items;
  count : length l.kids.items ≡ l._kid;
  keys_are : l.keys.items ≡ map (λ kid. first_of kid.entries) l.kids.items;
  key_space : 257 ≤ vec_capacity l.keys;
  kid_space : 226 ≤ vec_capacity l.kids;
}
