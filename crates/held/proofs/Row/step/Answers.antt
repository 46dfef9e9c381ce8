-- `held::Row::step` meets its contract: the new front is as long as the old one, so it is the front of the new row, and what is behind it stays.
use Rattle.std.proofs.Common.{rules, ◌≡◌, ◌∙◌, sym, length, drop, arith}
use Rattle.std.proofs.lemmas.List.{take_at, drop_at, length-take-le}
use Rattle.held.specs.Rows.{most_held, shown}
use Rattle.held.proofs.Row.step.Goals as goal

pub returns : goal.returns
returns c =
    let bays = c.args.self.now.bays in
    let n = c.min.result in
    let left = c.step-stepped.new.row in
    let whole : length bays ≡ most_held = search rules in
    let fit : shown c.args.count ≡ n = sym c.min.ensures in
    let long : length left ≡ n = c.step-stepped.auto.row ∙ length-take-le n bays (omega arith) in
    record {
      steps = rw (fit, take_at left (drop n bays) n long) c.step-stepped.ensures;
      others = rw fit (drop_at left (drop n bays) n long);
    }
