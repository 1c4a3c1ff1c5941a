-- What is seen of the records that a reader keeps.
use Rattle.mesh_addr.specs.declared.reader.Shape.{Shape}
use Rattle.mesh_addr.specs.Reading as reading

-- a shape without where it lies in memory
abbrev pub shape_of : Shape → reading.ShapeFields
shape_of shape = record { width = shape.width; head = shape.head.now; tail = shape.tail.now; prefix = shape.prefix }
