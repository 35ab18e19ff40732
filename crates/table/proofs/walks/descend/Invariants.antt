use Rattle.std.proofs.Common.{◌≡◌, suc}
use Rattle.table.specs.Shape.{bits_of}
use Rattle.table.specs.Walk.{walk_from, walk_of}
use Rattle.table.proofs.walks.descend.Given as goal

-- the walk from here on is the whole walk
abbrev pub invariant-loop-level : goal.invariant-loop-level
invariant-loop-level g l =
    walk_from (g.S.TableSource.reads l.source) l.table.top (bits_of l.table.index) l.page.number (suc l.level-counter) l.frame.number l.global
    ≡ walk_of (g.S.TableSource.reads l.source) l.table.top (bits_of l.table.index) l.table.root.number l.page.number
