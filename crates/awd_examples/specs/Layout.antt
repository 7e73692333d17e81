-- Bytes of documents, by the numbers that the examples vary, all of them below 256. Assumes nothing.
use Rattle.std.specs.Prelude.{ℕ, List, [], ◌∷◌, ◌++◌, replicate, codes}

-- a header by its magic string, version, revision, flags, compression and body length
abbrev pub header : List ℕ → ℕ → ℕ → ℕ → ℕ → ℕ → List ℕ
header magic version revision flags compression body =
    magic ++ (version ∷ revision ∷ flags ∷ 0 ∷ compression ∷ body ∷ 0 ∷ 0 ∷ 0 ∷ [])

-- a sound header, by its flags and body length
abbrev pub sound_header : ℕ → ℕ → List ℕ
sound_header flags body = header (codes "AWD") 2 1 flags 0 body

-- a number of 4 bytes
abbrev pub word : ℕ → List ℕ
word n = n ∷ 0 ∷ 0 ∷ 0 ∷ []

-- two empty lists
abbrev pub no_lists : List ℕ
no_lists = word 0 ++ word 0

-- a block of namespace 0, by its ID, kind, flags, the size that it states and its body
abbrev pub block : ℕ → ℕ → ℕ → ℕ → List ℕ → List ℕ
block id kind flags size body = word id ++ (0 ∷ kind ∷ flags ∷ word size) ++ body

-- a parent's address, and a matrix of zeros
abbrev pub placed : ℕ → List ℕ
placed parent = word parent ++ replicate 48 0

-- the body of a container under the root, named "a": 63 bytes
abbrev pub container : List ℕ
container = placed 0 ++ (1 ∷ 0 ∷ codes "a") ++ no_lists

-- the body of a mesh without a name, with geometry 1 and no materials, by its parent: 68 bytes
abbrev pub mesh : ℕ → List ℕ
mesh parent = placed parent ++ (0 ∷ 0 ∷ word 1) ++ (0 ∷ 0 ∷ no_lists)

-- the kitchen: a carried block at 12, a container at 23 and a mesh at 97, together 176 bytes, by the document's flags and body length, the
-- size that the container states and the mesh's parent
abbrev pub kitchen_of : ℕ → ℕ → ℕ → ℕ → List ℕ
kitchen_of flags body size parent =
    sound_header flags body ++ block 1 11 0 0 [] ++ block 2 22 0 size container ++ block 3 23 0 68 (mesh parent)

abbrev pub kitchen : List ℕ
kitchen = kitchen_of 0 164 63 2

-- three empty blocks, the second of them temporary, by the ID and the flags of the third
abbrev pub carried : ℕ → ℕ → List ℕ
carried id flags = sound_header 0 33 ++ block 1 11 0 0 [] ++ block 0 11 0 0 [] ++ block id 11 flags 0 []

-- three vertices, and one face with the vertices 0, 1 and a given one
abbrev pub streams : ℕ → List ℕ
streams last = (1 ∷ 1 ∷ word 36) ++ replicate 36 0 ++ (2 ∷ 1 ∷ word 6) ++ (0 ∷ 0 ∷ 1 ∷ 0 ∷ last ∷ 0 ∷ [])

-- a geometry without a name, with one sub-geometry that has these streams: 78 bytes
abbrev pub geometry : ℕ → List ℕ
geometry last = (0 ∷ 0 ∷ 1 ∷ 0 ∷ word 0) ++ word 54 ++ word 0 ++ streams last ++ no_lists

-- and as the only block of a document
abbrev pub modelled : ℕ → List ℕ
modelled last = sound_header 0 89 ++ block 1 1 0 78 (geometry last)

-- the body of a mesh under the root, named "lamp", with cells of 8 bytes of which that of 1 is 1.0, with geometry 1, material 2 and a given
-- second one: 128 bytes
abbrev pub lamp : ℕ → List ℕ
lamp material =
    word 0 ++ replicate 14 0 ++ (240 ∷ 63 ∷ replicate 80 0) ++ (4 ∷ 0 ∷ codes "lamp") ++ word 1 ++ (2 ∷ 0 ∷ word 2) ++ word material ++ no_lists

-- that mesh at 34, behind a primitive and a material, in a document with wide matrices
abbrev pub lit : ℕ → List ℕ
lit material = sound_header 2 161 ++ block 1 11 0 0 [] ++ block 2 81 0 0 [] ++ block 3 23 0 128 (lamp material)

-- an empty block of kind 22 in namespace 1, as the only one of a document
abbrev pub foreign : List ℕ
foreign = sound_header 0 11 ++ word 1 ++ (1 ∷ 22 ∷ 0 ∷ word 0)

-- a container of 110 bytes without a name, whose own flags make its cells wide, in a document that leaves the widths to its blocks
abbrev pub own_widths : List ℕ
own_widths = sound_header 16 121 ++ block 1 22 1 110 (word 0 ++ replicate 96 0 ++ (0 ∷ 0 ∷ no_lists))
