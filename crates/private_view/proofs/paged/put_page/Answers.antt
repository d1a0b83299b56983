use Rattle.std.proofs.Common.{arith}
use Rattle.private_view.proofs.Marked.{put_whole, whole_within}
use Rattle.private_view.proofs.paged.put_page.Goals as goal

pub put-requires : goal.put-requires
put-requires c =
    let most = whole_within c.args.word c.args.page _ c.if-word-eq18446744073709551615.true c.requires.within in
    omega (arith, most)

pub returns-then-word-eq18446744073709551615-clause-takes :
    goal.returns-then-word-eq18446744073709551615-clause-takes
returns-then-word-eq18446744073709551615-clause-takes c =
    put_whole c.args.target.now c.put.new.self c.args.part.now c.args.word c.args.page c.if-word-eq18446744073709551615.true c.requires.len c.put.ensures.values
