use Rattle.std.proofs.Common.{◌<◌, arith, length}
use Rattle.cell_index.proofs.BucketLemmas.{linked}
use Rattle.cell_index.proofs.buckets.Buckets.link.Goals as goal

pub returns-clause-shelved : goal.returns-clause-shelved
returns-clause-shelved c keys long shelved =
    let self = c.args.self.now in
    let within : c.bucket_of-bucket.result < length self.lasts.items =
    omega (arith, c.bucket_of-bucket.ensures.within c.requires.some, c.requires.whole) in
    linked keys self.blocks self.lasts.items self.links.items c.args.key.now
    c.args.place c.bucket_of-bucket.result c.index.result.now long c.requires.there
    c.bucket_of-bucket.ensures.bucket within c.index.ensures shelved
