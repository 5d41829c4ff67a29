-- The numbers that fix the size of things, each named once; those that follow from others are computed from them.
--     dim_limit        the largest dimension of a map
--     new_limit        the largest dimension that NEW gives: one lift is left to it
--     link_width       numbers in a row of links, one for each axis of the largest dimension
--     place_width      numbers in a row of places, one for each coordinate of the largest dimension
--     span_limit       spans that a row may hold
--     per_span         numbers that a span takes in a row
--     span_width       numbers in a row of spans: how many, then those of each
--     object_width     numbers in a row of objects
--     object_limit     how many values an object's number has
--     pair_width       numbers in a pair of ends, as the pieces call writes it
--     work_width       numbers in a row of work
--     dart_limit       the largest capacity of a side
--     reply_width      bytes in a reply
--     byte_limit, word_limit        how many values a byte has, and two bytes
--     input_limit, plan_room, lifted_room, reply_room   what `liftrun` takes and lends
use Rattle.std.specs.Prelude.{ℕ, ◌+◌, ◌-◌, ◌*◌}

abbrev pub dim_limit : ℕ
dim_limit = 5

abbrev pub new_limit : ℕ
new_limit = dim_limit - 1

abbrev pub link_width : ℕ
link_width = dim_limit + 1

abbrev pub place_width : ℕ
place_width = dim_limit

abbrev pub span_limit : ℕ
span_limit = 8

abbrev pub per_span : ℕ
per_span = 3

abbrev pub span_width : ℕ
span_width = 1 + per_span * span_limit

abbrev pub object_width : ℕ
object_width = 1

abbrev pub pair_width : ℕ
pair_width = 2

abbrev pub work_width : ℕ
work_width = 4

abbrev pub dart_limit : ℕ
dart_limit = 16384

abbrev pub reply_width : ℕ
reply_width = 3

abbrev pub byte_limit : ℕ
byte_limit = 256

abbrev pub word_limit : ℕ
word_limit = byte_limit * byte_limit

abbrev pub object_limit : ℕ
object_limit = word_limit

abbrev pub input_limit : ℕ
input_limit = 2048

abbrev pub plan_room : ℕ
plan_room = 192

abbrev pub lifted_room : ℕ
lifted_room = 512

abbrev pub reply_room : ℕ
reply_room = 3072
