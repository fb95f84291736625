mod KnownReads
