use Rattle.std.proofs.Common.{Err, sym, ap, ◌∙◌, rules}
use Rattle.std.proofs.lemmas.List.{take_rest}
use Rattle.taskfile.proofs.Chain.{header_version, at_atoms, at_count, at_map, at_right}
use Rattle.taskfile.proofs.header.read_header.Goals as goal

pub returns-then-version-ne-VERSION : goal.returns-then-version-ne-VERSION
returns-then-version-ne-VERSION c = record { reads = header_version c.args.bytes.now (search rules) (search rules) ∙ ap Err (sym c.fault.ensures); within = tt }

pub returns-then-atoms-gt-ATOMS : goal.returns-then-atoms-gt-ATOMS
returns-then-atoms-gt-ATOMS c = record { reads = at_atoms c.args.bytes.now (search rules) (search rules) (search rules) ∙ ap Err (sym c.fault-then-atoms-gt-ATOMS.ensures); within = tt }

pub returns-then-actions-gt-ACTIONS : goal.returns-then-actions-gt-ACTIONS
returns-then-actions-gt-ACTIONS c = record { reads = at_count c.args.bytes.now (search rules) (search rules) (search rules) (search rules) ∙ ap Err (sym c.fault-then-actions-gt-ACTIONS.ensures); within = tt }

pub returns-then-map-ge-MAPS : goal.returns-then-map-ge-MAPS
returns-then-map-ge-MAPS c = record { reads = at_map c.args.bytes.now (search rules) (search rules) (search rules) (search rules) (search rules) ∙ ap Err (sym c.fault-then-map-ge-MAPS.ensures); within = tt }

pub returns : goal.returns
returns c = record {
  reads = (_, at_right c.args.bytes.now c.action_count-actions.result _ (search rules) (search rules) (search rules) c.action_count-actions.ensures (search rules) (search rules) (take_rest c.args.bytes.now 5), c.brings.ensures, c.brings-2.ensures);
  within = search rules;
}
