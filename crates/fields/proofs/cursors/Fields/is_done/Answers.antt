use Rattle.std.proofs.Common.{◌≡◌, ◌≤◌, [], length, drop, ap, arith, rules}
use Rattle.std.proofs.lemmas.List.{drop_all, length-drop}
use Rattle.fields.proofs.cursors.Fields.is_done.Goals as goal

pub returns-then-self-eq10 : goal.returns-then-self-eq10
returns-then-self-eq10 c =
    let f = c.args.self.now in
    let e : f.stop ≡ 10 = search rules in (
      λ d. let past : length f.line.now ≤ f.at = search rules in
          let none : drop f.at f.line.now ≡ [] = drop_all f.at f.line.now past in cc,
      λ q. let none : drop f.at f.line.now ≡ [] = cc in
          let past : length f.line.now ≤ f.at = omega (arith, ap length none, length-drop f.at f.line.now) in
          search rules,
    )
