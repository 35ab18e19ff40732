use Rattle.shadow.specs.Fullest.{fullest_canonical, fullest_reads, handed_fullest}
use Rattle.shadow.proofs.accesses.access_pool.Goals as goal

pub learn-requires : goal.learn-requires
learn-requires g c =
    let w = c.args.world.now in
    let x = c.in-Some-grant.grant in
    let f = handed_fullest w c.args.access c.walked-reply.result x c.walked-reply.ensures c.in-Some-grant.is in
    record { page = fullest_canonical w x f; rights = fullest_reads w x f }
