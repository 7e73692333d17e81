use Rattle.std.proofs.Common.{arith}
use Rattle.std.proofs.lemmas.Bool.Decides.{nat_tests}
use Rattle.awd_geometry.specs.declared.streams.StreamType.TheVariants.{Vertices, Faces, TextureCoordinates, Normals}
use Rattle.awd_geometry.proofs.streams.item_size.Goals as goal

pub returns-in-Err-clause-size : goal.returns-in-Err-clause-size
returns-in-Err-clause-size c =
    let none = c.in-Err.ensures.1 in
    grind (arith, nat_tests, none Vertices, none Faces, none TextureCoordinates, none Normals)
