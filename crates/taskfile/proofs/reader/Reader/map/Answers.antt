use Rattle.std.proofs.lemmas.Bool.{cond-true, cond-false, lt-ltb, le-ltb}
use Rattle.taskfile.specs.Reading.{map_denied}
use Rattle.taskfile.proofs.Steps.{reads_err, next_ends, next_denied, next_right, one_value}
use Rattle.taskfile.proofs.reader.Reader.map.Goals as goal

pub returns-in_err-map : goal.returns-in_err-map
returns-in_err-map c = reads_err _ c.args.self.now c.take.new.self _ _ _ c.from_residual.ensures.1 (next_ends 1 (map_denied 4) c.args.self.now c.take.new.self _ c.in_err-map.ensures)

pub returns-then-map-ge-MAPS : goal.returns-then-map-ge-MAPS
returns-then-map-ge-MAPS c =
    let t = c.in_ok-map.ensures in
    next_denied 1 (map_denied 4) _ _ _ t _ (one_value _ _ t.0 t.1) _ _ _ (cond-false _ _ _ (le-ltb _ _ c.if-map-ge-MAPS.true)) c.place-place.ensures c.fault.ensures

pub returns : goal.returns
returns c =
    let t = c.in_ok-map.ensures in
    next_right 1 (map_denied 4) _ _ _ t _ (one_value _ _ t.0 t.1) (cond-true _ _ _ (lt-ltb _ _ c.if-map-ge-MAPS.false))
