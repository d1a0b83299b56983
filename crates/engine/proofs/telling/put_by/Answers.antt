use Rattle.std.proofs.Common.{refl}
use Rattle.messages.specs.Explained.{explained}
use Rattle.engine.proofs.telling.put_by.Goals as goal

pub returns : goal.returns
returns g c =
    let about = c.about_of.result in
    (explained c.args.file.now c.args.source.now c.args.matter about.place about.text.now, (about.place, about.text.now, c.about_of.ensures, refl), c.put_about.ensures)
